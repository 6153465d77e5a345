-- The lock table behind one more record.
use Rattle.std.proofs.Common.{◌≡◌, ◌≢◌, ◌≤◌, inl, inr, Bool, true, false, ◌&&◌, ◌||◌, not, List, ◌∷◌, Option, Some, None, refl, sym, ap, subst, ◌∙◌, arith}
use Rattle.std.proofs.lemmas.Bool.{cases_eq, and_parts}
use Rattle.std.proofs.lemmas.Bool.Decides.{nat_tests}
use Rattle.std.specs.Prelude.{◌==◌, nat_lt}
use Rattle.score_base.specs.declared.ids.TxId.{TxId}
use Rattle.score_base.specs.declared.ids.NodeId.{NodeId}
use Rattle.score_base.specs.declared.ids.Ident.{Ident}
use Rattle.score_base.specs.declared.ids.Value.{Value}
use Rattle.score_base.specs.declared.keys.Key.{Key}
use Rattle.score_base.specs.declared.causes.Outcome.{Outcome}
use Rattle.score_base.specs.declared.causes.Outcome.TheVariants as outcome
use Rattle.score_base.specs.declared.records.Record.{Record}
use Rattle.score_base.specs.declared.records.Record.TheVariants as record'
use Rattle.placement.specs.Clusters.{ClusterData}
use Rattle.lock_table.specs.Keys.{Held, holds_lock, writes_key, is_read, is_written, Conflicts}
use Rattle.journal_words.specs.Journals.{Prepared, prepared_of, ended, is_clear, is_unapplied, is_locking, conflicts_with, fits}
use Rattle.journal_words.proofs.Fits.{FitsPrepared, prepared-fits}
use Rattle.journal_words.proofs.Once.{prepared-other, prepared-first}
use Rattle.journal_words.proofs.Floors.{above-final}
use Rattle.journal_words.proofs.Locks.{holder-free}
use Rattle.grid_store.specs.Given.{keys_for}
use Rattle.grid_store.specs.Keeping.{names, writes_to, KeepsLocks, CanTake}
use Rattle.grid_store.proofs.LockReads.{conflicts-hold}

-- ---- a Prepared that fits may take its locks

nothing : (b : Bool) (o : Option Prepared) (k : Key) → o ≡ None → (b && names o k) ≡ false
nothing true o k e = rw e refl
nothing false o k e = refl

nothing_written : (b : Bool) (o : Option Prepared) (k : Key) → o ≡ None → (b && writes_to o k) ≡ false
nothing_written true o k e = rw e refl
nothing_written false o k e = refl

pub may-take : (c : ClusterData) (n : NodeId) (held : Held) (r : List Record) (t : TxId) (home : NodeId) (parts : List NodeId) (sid p : Ident) (reads : List Key) (writes : List (Key × Value)) → KeepsLocks held r → fits c n r (record'.Prepared t home parts sid p reads writes) ≡ true → (u : TxId) → u ≢ t → ¬ Conflicts held reads writes u
may-take c n held r t home parts sid p reads writes keeps fit u ne both =
    let free = (prepared-fits c n r t parts sid p reads writes fit).free in
    let h = conflicts-hold held r t u reads writes keeps ne both in
    let a = and_parts (not (u == t)) (is_locking u r && conflicts_with (prepared_of u r) reads writes) h in
    let b = and_parts (is_locking u r) (conflicts_with (prepared_of u r) reads writes) a.1 in
    let none = holder-free r t reads writes u free ne b.0 in
    grind (arith, none, b.1)

pub is-idle : (c : ClusterData) (n : NodeId) (held : Held) (r : List Record) (t : TxId) (home : NodeId) (parts : List NodeId) (sid p : Ident) (reads : List Key) (writes : List (Key × Value)) → KeepsLocks held r → fits c n r (record'.Prepared t home parts sid p reads writes) ≡ true → (k : Key) → holds_lock held t k ≡ false
is-idle c n held r t home parts sid p reads writes keeps fit k =
    keeps.keys t k ∙ nothing (is_locking t r) (prepared_of t r) k (prepared-fits c n r t parts sid p reads writes fit).new

-- ---- behind a Prepared

-- nobody else's commit waits for it, since its proposal is above
unapplied-same : (c : ClusterData) (n : NodeId) (r : List Record) (t u : TxId) (home : NodeId) (parts : List NodeId) (sid p : Ident) (reads : List Key) (writes : List (Key × Value)) → FitsPrepared c n r t parts sid p reads writes → is_unapplied (ended u r) (record'.Prepared t home parts sid p reads writes ∷ r) ≡ is_unapplied (ended u r) r
unapplied-same c n r t u home parts sid p reads writes f = go (ended u r) refl
  where
    go : (o : Option Outcome) → ended u r ≡ o → is_unapplied o (record'.Prepared t home parts sid p reads writes ∷ r) ≡ is_unapplied o r
    go None e = refl
    go (Some outcome.Abort) e = refl
    go (Some (outcome.Commit g)) e =
        let lt = above-final p u g r f.above e in
        let below : nat_lt g p ≡ true = grind (arith, nat_tests, lt) in
        rw below refl

locking-same : (c : ClusterData) (n : NodeId) (r : List Record) (t u : TxId) (home : NodeId) (parts : List NodeId) (sid p : Ident) (reads : List Key) (writes : List (Key × Value)) → FitsPrepared c n r t parts sid p reads writes → t == u ≡ false → is_locking u (record'.Prepared t home parts sid p reads writes ∷ r) ≡ is_locking u r
locking-same c n r t u home parts sid p reads writes f other = rw (other, unapplied-same c n r t u home parts sid p reads writes f) refl

pub locks-prepared : (c : ClusterData) (n : NodeId) (old new : Held) (r : List Record) (t : TxId) (home : NodeId) (parts : List NodeId) (sid p : Ident) (reads : List Key) (writes : List (Key × Value)) → KeepsLocks old r → fits c n r (record'.Prepared t home parts sid p reads writes) ≡ true → ((u : TxId) (k : Key) → holds_lock new u k ≡ (holds_lock old u k || (u == t && (is_read reads k || is_written writes k)))) → ((u : TxId) (k : Key) → writes_key new u k ≡ (writes_key old u k || (u == t && is_written writes k))) → KeepsLocks new (record'.Prepared t home parts sid p reads writes ∷ r)
locks-prepared c n old new r t home parts sid p reads writes keeps fit keys written = record {
  keys = λ u k. elim (cases_eq t u) [
    | inl same ↦ (let P : TxId → Type 0 = λ v. holds_lock new v k ≡ (is_locking v (record'.Prepared t home parts sid p reads writes ∷ r) && names (prepared_of v (record'.Prepared t home parts sid p reads writes ∷ r)) k) in subst P same (here k))
    | inr ne ↦ (let other : t == u ≡ false = grind (arith, nat_tests) in let other' : u == t ≡ false = grind (arith, nat_tests) in
        keys u k ∙ rw (other', keeps.keys u k, locking-same c n r t u home parts sid p reads writes f other, prepared-other u (record'.Prepared t home parts sid p reads writes) r other) (or-false (is_locking u r && names (prepared_of u r) k)))
  ];
  written = λ u k. elim (cases_eq t u) [
    | inl same ↦ (let P : TxId → Type 0 = λ v. writes_key new v k ≡ (is_locking v (record'.Prepared t home parts sid p reads writes ∷ r) && writes_to (prepared_of v (record'.Prepared t home parts sid p reads writes ∷ r)) k) in subst P same (here_written k))
    | inr ne ↦ (let other : t == u ≡ false = grind (arith, nat_tests) in let other' : u == t ≡ false = grind (arith, nat_tests) in
        written u k ∙ rw (other', keeps.written u k, locking-same c n r t u home parts sid p reads writes f other, prepared-other u (record'.Prepared t home parts sid p reads writes) r other) (or-false (is_locking u r && writes_to (prepared_of u r) k)))
  ];
}
  where
    f : FitsPrepared c n r t parts sid p reads writes
    f = prepared-fits c n r t parts sid p reads writes fit

    self : t == t ≡ true
    self = grind (arith, nat_tests)

    or-false : (b : Bool) → (b || false) ≡ b
    or-false true = refl
    or-false false = refl

    here : (k : Key) → holds_lock new t k ≡ (is_locking t (record'.Prepared t home parts sid p reads writes ∷ r) && names (prepared_of t (record'.Prepared t home parts sid p reads writes ∷ r)) k)
    here k =
        let idle = keeps.keys t k ∙ nothing (is_locking t r) (prepared_of t r) k f.new in
        keys t k ∙ rw (idle, prepared-first c n r t home parts sid p reads writes fit, self) refl

    here_written : (k : Key) → writes_key new t k ≡ (is_locking t (record'.Prepared t home parts sid p reads writes ∷ r) && writes_to (prepared_of t (record'.Prepared t home parts sid p reads writes ∷ r)) k)
    here_written k =
        let idle = keeps.written t k ∙ nothing_written (is_locking t r) (prepared_of t r) k f.new in
        written t k ∙ rw (idle, prepared-first c n r t home parts sid p reads writes fit, self) refl

-- ---- behind a record of the home or of the clock nothing changes

unapplied-alike : (o : Option Outcome) (y : Record) (r : List Record) → ((f : Ident) → is_clear f (y ∷ r) ≡ is_clear f r) → is_unapplied o (y ∷ r) ≡ is_unapplied o r
unapplied-alike None y r h = refl
unapplied-alike (Some outcome.Abort) y r h = refl
unapplied-alike (Some (outcome.Commit f)) y r h = ap not (h f)

pub locks-ceiling : (held : Held) (r : List Record) (d : Ident) → KeepsLocks held r → KeepsLocks held (record'.Ceiling d ∷ r)
locks-ceiling held r d k = record {
  keys = λ u x. k.keys u x ∙ sym (rw (unapplied-alike (ended u r) (record'.Ceiling d) r (λ f. refl)) refl);
  written = λ u x. k.written u x ∙ sym (rw (unapplied-alike (ended u r) (record'.Ceiling d) r (λ f. refl)) refl);
}

pub locks-decided : (held : Held) (r : List Record) (t : TxId) (f : Ident) (parts : List NodeId) → KeepsLocks held r → KeepsLocks held (record'.Decided t f parts ∷ r)
locks-decided held r t f parts k = record {
  keys = λ u x. k.keys u x ∙ sym (rw (unapplied-alike (ended u r) (record'.Decided t f parts) r (λ f. refl)) refl);
  written = λ u x. k.written u x ∙ sym (rw (unapplied-alike (ended u r) (record'.Decided t f parts) r (λ f. refl)) refl);
}

pub locks-closed : (held : Held) (r : List Record) (t : TxId) → KeepsLocks held r → KeepsLocks held (record'.Closed t ∷ r)
locks-closed held r t k = record {
  keys = λ u x. k.keys u x ∙ sym (rw (unapplied-alike (ended u r) (record'.Closed t) r (λ f. refl)) refl);
  written = λ u x. k.written u x ∙ sym (rw (unapplied-alike (ended u r) (record'.Closed t) r (λ f. refl)) refl);
}

-- a record that fits can take its locks, where there is room
pub can-take : (c : ClusterData) (n : NodeId) (held : Held) (r : List Record) (x : Record) → KeepsLocks held r → fits c n r x ≡ true → keys_for x ≤ held.spare → CanTake held x
can-take c n held r (record'.Prepared t home parts sid p reads writes) k fit room = (
  may-take c n held r t home parts sid p reads writes k fit,
  (λ x h. (let idle = is-idle c n held r t home parts sid p reads writes k fit x in absurd (grind (arith, idle, h)))),
  room,
)
can-take c n held r (record'.Ended t o) k fit room = tt
can-take c n held r (record'.Ceiling d) k fit room = tt
can-take c n held r (record'.Decided t f parts) k fit room = tt
can-take c n held r (record'.Closed t) k fit room = tt
