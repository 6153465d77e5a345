-- The pending queue behind one more record.
use Rattle.std.proofs.Common.{◌≡◌, ◌≤◌, ◌∷◌, true, List, Option, Some, None, refl, ◌∙◌, arith}
use Rattle.std.proofs.lemmas.Bool.Decides.{nat_tests}
use Rattle.std.specs.Cmp.{nat_cmp_total, unsigned_tied}
use Rattle.std.specs.FinMap as map
use Rattle.score_base.specs.declared.ids.TxId.{TxId}
use Rattle.score_base.specs.declared.ids.NodeId.{NodeId}
use Rattle.score_base.specs.declared.ids.Ident.{Ident}
use Rattle.score_base.specs.declared.ids.Value.{Value}
use Rattle.score_base.specs.declared.keys.Key.{Key}
use Rattle.score_base.specs.declared.causes.Outcome.{Outcome}
use Rattle.score_base.specs.declared.records.Record.{Record}
use Rattle.score_base.specs.declared.records.Record.TheVariants as record'
use Rattle.placement.specs.Clusters.{ClusterData}
use Rattle.pending_queue.specs.Proposals.{Proposals, Queue}
use Rattle.journal_words.specs.Journals.{prepared_of, pending, fits}
use Rattle.journal_words.proofs.Fits.{prepared-fits}
use Rattle.journal_words.proofs.Once.{pending-prepared as p-prepared}
use Rattle.grid_store.specs.Keeping.{KeepsPending, CanPend}

pub pending-prepared : (m m' : Proposals) (r : List Record) (t : TxId) (home : NodeId) (parts : List NodeId) (sid p : Ident) (reads : List Key) (writes : List (Key × Value)) → KeepsPending m r → m' ≡ map.insert m t p → KeepsPending m' (record'.Prepared t home parts sid p reads writes ∷ r)
pending-prepared m m' r t home parts sid p reads writes keeps is u =
    let k = keeps u in
    rw is (rw (map.get-insert nat_cmp_total m t p u, unsigned_tied u t) (grind (arith, nat_tests, k)))

pub pending-ended : (m m' : Proposals) (r : List Record) (t : TxId) (o : Outcome) → KeepsPending m r → m' ≡ map.remove m t → KeepsPending m' (record'.Ended t o ∷ r)
pending-ended m m' r t o keeps is u =
    let k = keeps u in
    rw is (rw (map.get-remove nat_cmp_total m t u, unsigned_tied u t) (grind (arith, nat_tests, k)))

none-pending : (t : TxId) (r : List Record) → prepared_of t r ≡ None → pending t r ≡ None
none-pending t r new = go (pending t r) refl
  where
    go : (o : Option Ident) → pending t r ≡ o → o ≡ None
    go None e = refl
    go (Some p) e = absurd (let x = p-prepared t p r e in let is = x.1 in cc)

-- a record that fits can be put into the queue, where there is room for it
pub can-pend : (c : ClusterData) (n : NodeId) (r : List Record) (q : Queue) (x : Record) → KeepsPending q.proposals r → fits c n r x ≡ true → 1 ≤ q.spare → CanPend q x
can-pend c n r q (record'.Prepared t home parts sid p reads writes) k fit room =
    (k t ∙ none-pending t r (prepared-fits c n r t parts sid p reads writes fit).new, room)
can-pend c n r q (record'.Ended t o) k fit room = tt
can-pend c n r q (record'.Ceiling d) k fit room = tt
can-pend c n r q (record'.Decided t f parts) k fit room = tt
can-pend c n r q (record'.Closed t) k fit room = tt
