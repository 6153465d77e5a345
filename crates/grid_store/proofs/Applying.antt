-- One commit is applied: what stands before stands behind it.
use Rattle.std.proofs.Common.{◌≡◌, ℕ, Bool, true, false, not, ◌&&◌, max, List, reverse, Option, refl, sym, ◌∙◌}
use Rattle.std.specs.Prelude.{◌==◌, IsNone, IfSome, IsTrue, ◌↔◌}
use Rattle.std.specs.FinSet as set
use Rattle.std.specs.FinMap as map
use Rattle.score_base.specs.declared.ids.TxId.{TxId}
use Rattle.score_base.specs.declared.ids.NodeId.{NodeId}
use Rattle.score_base.specs.declared.ids.Ident.{Ident}
use Rattle.score_base.specs.declared.causes.Outcome.TheVariants as outcome
use Rattle.score_base.specs.declared.keys.Key.{Key}
use Rattle.score_base.specs.declared.records.Record.{Record}
use Rattle.placement.specs.Clusters.{ClusterData}
use Rattle.pending_queue.specs.Proposals.{Proposals, IsLeast}
use Rattle.stable_queue.specs.Commits.{Commits, is_below}
use Rattle.lock_table.specs.Keys.{Held, holds_lock, writes_key}
use Rattle.version_chain.specs.Kept.{Kept}
use Rattle.journal_words.specs.Journals.{prepared_of, is_clear, commit_id}
use Rattle.journal_words.proofs.Once.{ended-over}
use Rattle.grid_store.specs.Keeping.{KeepsStable, KeepsLocks}
use Rattle.grid_store.specs.Chained.{Applies, CanPutAll, IsPut, writes_in}
use Rattle.grid_store.proofs.ClearSteps.{least-clear}
use Rattle.grid_store.proofs.StableSteps.{settled, taken-out}
use Rattle.grid_store.proofs.ChainSteps.{can-apply, chains-applied, places-applied, apart-left}

module _ (c : ClusterData) (n : NodeId) (rs : List Record) (places : List (TxId × ℕ)) (proposals : Proposals) (commits : Commits) (held : Held) (top : Ident) (kept : Kept)
    (a : Applies c n rs places proposals commits held top kept) where
  -- the least commit that is below every pending proposal can be applied
  pub may-apply : (f : Ident) (t : TxId) → set.contains commits (f, t) ≡ true → CanPutAll (writes_in (prepared_of t (reverse rs))) f kept
  may-apply f t member = can-apply c n commits kept (reverse rs) f t a.fit (a.settles.known f t member) member a.open'

  pub applied-one : (f : Ident) (t : TxId) (least : Option ℕ) (commits' : Commits) (held' : Held) (kept' : Kept)
      → (IsNone least ↔ (proposals ≡ map.empty)) → IfSome least (IsLeast proposals) → IsTrue (is_below least f)
      → set.contains commits (f, t) ≡ true → commits' ≡ set.remove commits (f, t)
      → ((u : TxId) (k : Key) → holds_lock held' u k ≡ (not (u == t) && holds_lock held u k))
      → ((u : TxId) (k : Key) → writes_key held' u k ≡ (not (u == t) && writes_key held u k))
      → IsPut (writes_in (prepared_of t (reverse rs))) f kept kept'
      → Applies c n rs places proposals commits' held' (max top f) kept'
  applied-one f t least commits' held' kept' none is below member rest keys written put =
      let r : List Record = reverse rs in
      let clear : is_clear f r ≡ true = sym (least-clear c n f least proposals r a.fit a.queue none is) ∙ below in
      let over = a.settles.known f t member in
      record {
        fit = a.fit;
        placed = a.placed;
        queue = a.queue;
        settles = taken-out c n r f t commits commits' held held' top a.fit a.settles member clear rest keys written;
        versions = rw rest (chains-applied commits kept kept' r f t over member put a.versions);
        open' = rw rest (places-applied c n commits kept kept' r f t over member (ended-over c n t (outcome.Commit f) r a.fit over) put a.apart a.open');
        apart = rw rest (apart-left commits r f t a.apart);
      }

  -- where nothing that waits is below the least proposal, all that is applied was taken out
  pub all-applied : (least : Option ℕ) → (IsNone least ↔ (proposals ≡ map.empty)) → IfSome least (IsLeast proposals)
      → ((m : ℕ × ℕ) → IsTrue (set.contains commits m) → ¬ IsTrue (is_below least m.0))
      → KeepsStable commits (reverse rs) × (top ≡ commit_id (reverse rs)) × KeepsLocks held (reverse rs)
  all-applied least none is waits = settled c n commits held top (reverse rs) a.fit a.settles (λ f t member.
      not-true (is_clear f (reverse rs)) (λ clear. waits (f, t) member (least-clear c n f least proposals (reverse rs) a.fit a.queue none is ∙ clear)))
    where
      not-true : (b : Bool) → ¬ (b ≡ true) → b ≡ false
      not-true true no' = absurd (no' refl)
      not-true false no' = refl
