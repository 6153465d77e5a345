-- In which order do two transactions that conflict at a node stand?
use Rattle.std.proofs.Common.{◌≤◌, ◌<◌, ◌≡◌, ◌≢◌, ◌⊎◌, inl, inr, Bool, true, false, not, List, [], ◌∷◌, Option, Some, None, is_some, refl, sym, subst, ◌∙◌, arith, if◌then◌else◌}
use Rattle.std.proofs.lemmas.Bool.{cases_Bool, cases_eq, or_parts}
use Rattle.std.proofs.lemmas.Bool.Decides.{nat_tests}
use Rattle.std.specs.Prelude.{◌==◌, nat_lt}
use Rattle.score_base.specs.declared.ids.TxId.{TxId}
use Rattle.score_base.specs.declared.ids.NodeId.{NodeId}
use Rattle.score_base.specs.declared.ids.Ident.{Ident}
use Rattle.score_base.specs.declared.ids.Value.{Value}
use Rattle.score_base.specs.declared.keys.Key.{Key}
use Rattle.score_base.specs.declared.causes.Outcome.{Outcome}
use Rattle.score_base.specs.declared.causes.Outcome.TheVariants as outcome
use Rattle.score_base.specs.declared.records.Record.{Record}
use Rattle.score_base.specs.declared.records.Record.TheVariants as record'
use Rattle.score_base.specs.Keys.{same_key}
use Rattle.script_lang.specs.Reads.{is_key_among}
use Rattle.placement.specs.Clusters.{ClusterData}
use Rattle.journal_words.specs.Journals.{Prepared, prepared_of, pending, is_clear, ended, written_value, wrote_in, newest, keys_of_writes, conflict, conflicts_with, is_unapplied, is_locking, newer, all_fit}
use Rattle.script_lang.proofs.KeyLists.{same_key-is}
use Rattle.journal_words.proofs.KeyLists.{conflict-turned, written-among}
use Rattle.journal_words.proofs.Fits.{FitsPrepared, prepared-fits, newest-fits, rest-fits}
use Rattle.journal_words.proofs.Once.{prepared-other, prepared-first, running-pending, ended-stays}
use Rattle.journal_words.proofs.Floors.{above-final}
use Rattle.journal_words.proofs.Applied.{says-applied}
use Rattle.journal_words.proofs.Readable.{newest-bound}
use Rattle.journal_words.proofs.Locks.{holder-free, pending-locks}

-- ---- nothing newer

newer-here : (m sid : Ident) (k : Key) (o : Option (Key × Ident)) → (if nat_lt sid m then Some (k, m) else o) ≡ None
    → (m ≤ sid) × (o ≡ None)
newer-here m sid k o h = go (nat_lt sid m) refl h
  where
    go : (b : Bool) → nat_lt sid m ≡ b → (if b then Some (k, m) else o) ≡ None → (m ≤ sid) × (o ≡ None)
    go true e h = absurd (grind (arith, h))
    go false e h = (grind (arith, nat_tests, e), h)

-- none of these keys has an applied version above sid
pub newer-none : (r : List Record) (ks : List Key) (sid : Ident) (k : Key) → newer r ks sid ≡ None
    → is_key_among k ks ≡ true → newest r k ≤ sid
newer-none r [] sid k h is = absurd (grind (arith, is))
newer-none r (x ∷ ks) sid k h is =
    let here = newer-here (newest r x) sid x (newer r ks sid) h in
    elim (cases_Bool (same_key k x)) [
      | inl same ↦ (let P : Key → Type 0 = λ z. newest r z ≤ sid in subst P (sym (same_key-is k x same)) here.0)
      | inr other ↦ newer-none r ks sid k here.1 (grind (arith, other, is))
    ]

-- ---- one before the other

-- a with this outcome comes before b: it is aborted, or its final identifier is below the proposal of b,
-- and where b reads a key that a writes it is at most the snapshot identifier of b
pub data IsBefore (o : Option Outcome) (a b : Prepared) : Type 0 where
  aborted : o ≡ Some outcome.Abort → IsBefore o a b
  committed : (f : Ident) → o ≡ Some (outcome.Commit f) → f < b.proposal
      → ((k : Key) → is_key_among k (keys_of_writes a.writes) ≡ true → is_key_among k b.reads ≡ true → f ≤ b.sid)
      → IsBefore o a b

-- it stays before it
pub before-stays : (c : ClusterData) (n : NodeId) (t : TxId) (a b : Prepared) (y : Record) (r : List Record)
    → all_fit c n (y ∷ r) ≡ true → IsBefore (ended t r) a b → IsBefore (ended t (y ∷ r)) a b
before-stays c n t a b y r fit (aborted e) = aborted (ended-stays c n t outcome.Abort y r fit e)
before-stays c n t a b y r fit (committed f e lt each) = committed f (ended-stays c n t (outcome.Commit f) y r fit e) lt each

written-some : (k : Key) (t : TxId) (a : Prepared) (r : List Record) → prepared_of t r ≡ Some a
    → is_key_among k (keys_of_writes a.writes) ≡ true → (v : Value) × (wrote_in (prepared_of t r) k ≡ Some v)
written-some k t a r e h = go (written_value k a.writes) refl (sym (written-among k a.writes) ∙ h)
  where
    go : (o : Option Value) → written_value k a.writes ≡ o → is_some o ≡ true
        → (v : Value) × (wrote_in (prepared_of t r) k ≡ Some v)
    go None is h = absurd (grind (arith, h))
    go (Some v) is h = (v, rw e is)

-- who conflicts with a new Prepared is before it
pub conflict-before : (c : ClusterData) (n : NodeId) (t u : TxId) (a : Prepared) (home : NodeId) (parts : List NodeId)
    (sid p : Ident) (reads : List Key) (writes : List (Key × Value)) (r : List Record)
    → all_fit c n (record'.Prepared u home parts sid p reads writes ∷ r) ≡ true → t ≢ u → prepared_of t r ≡ Some a
    → conflict a.reads a.writes reads writes ≡ true
    → IsBefore (ended t r) a (record { home = home; sid = sid; proposal = p; reads = reads; writes = writes })
conflict-before c n t u a home parts sid p reads writes r fit ne e both =
    let rest = rest-fits c n (record'.Prepared u home parts sid p reads writes) r fit in
    let f = prepared-fits c n r u parts sid p reads writes (newest-fits c n (record'.Prepared u home parts sid p reads writes) r fit) in
    go f rest (ended t r) refl (unlocked f (is_locking t r) refl)
  where
    unlocked : FitsPrepared c n r u parts sid p reads writes → (b : Bool) → is_locking t r ≡ b → is_locking t r ≡ false
    unlocked f false l = l
    unlocked f true l = absurd (
        let no' : conflicts_with (prepared_of t r) reads writes ≡ false = holder-free r u reads writes t f.free ne l in
        let no'' : conflict a.reads a.writes reads writes ≡ false = rw e at no' in
        grind (arith, no'', both))

    go : FitsPrepared c n r u parts sid p reads writes → all_fit c n r ≡ true → (o : Option Outcome) → ended t r ≡ o
        → is_locking t r ≡ false
        → IsBefore o a (record { home = home; sid = sid; proposal = p; reads = reads; writes = writes })
    go f rest None is l = absurd (
        let runs = pending-locks t a.proposal r (running-pending c n t a r rest e is) in
        grind (arith, runs, l))
    go f rest (Some outcome.Abort) is l = aborted refl
    go f rest (Some (outcome.Commit g)) is l =
        let waits : is_unapplied (ended t r) r ≡ false = (or_parts (is_some (pending t r)) (is_unapplied (ended t r) r) l).1 in
        let waits' : not (is_clear g r) ≡ false = rw is at waits in
        let clear : is_clear g r ≡ true = grind (arith, waits') in
        committed g refl (above-final p t g r f.above is) (λ k w read.
        let v = written-some k t a r e w in
        let new = newest-bound t g k v.0 r (says-applied t g r is clear) v.1 in
        let old = newer-none r reads sid k f.seen read in
        omega arith)

-- ---- of two that conflict one is before the other

pub conflicts-ordered : (c : ClusterData) (n : NodeId) (t u : TxId) (a b : Prepared) (r : List Record)
    → all_fit c n r ≡ true → t ≢ u → prepared_of t r ≡ Some a → prepared_of u r ≡ Some b
    → conflict a.reads a.writes b.reads b.writes ≡ true → IsBefore (ended t r) a b ⊎ IsBefore (ended u r) b a
conflicts-ordered c n t u a b [] fit ne ea eb both = absurd (grind (arith, ea))
conflicts-ordered c n t u a b (record'.Prepared v home parts sid p reads writes ∷ r) fit ne ea eb both =
    let y : Record = record'.Prepared v home parts sid p reads writes in
    elim (cases_eq v t) [
      | inl same ↦
          let this = first t a same ea in
          let other : v == u ≡ false = grind (arith, nat_tests) in
          let eb' : prepared_of u r ≡ Some b = sym (prepared-other u y r other) ∙ eb in
          let both' : conflict b.reads b.writes a.reads a.writes ≡ true = conflict-turned b.reads a.reads b.writes a.writes ∙ both in
          let P : Prepared → Type 0 = λ z. conflict b.reads b.writes z.reads z.writes ≡ true in
          inr (subst (IsBefore (ended u r) b) this (conflict-before c n u v b home parts sid p reads writes r fit (grind (arith, nat_tests, other)) eb' (subst P (sym this) both')))
      | inr ne' ↦
          let other : v == t ≡ false = grind (arith, nat_tests) in
          let ea' : prepared_of t r ≡ Some a = sym (prepared-other t y r other) ∙ ea in
          elim (cases_eq v u) [
            | inl same ↦
                let this = first u b same eb in
                let P : Prepared → Type 0 = λ z. conflict a.reads a.writes z.reads z.writes ≡ true in
                inl (subst (IsBefore (ended t r) a) this (conflict-before c n t v a home parts sid p reads writes r fit (grind (arith, nat_tests, other)) ea' (subst P (sym this) both)))
            | inr ne'' ↦
                let other' : v == u ≡ false = grind (arith, nat_tests) in
                let eb' : prepared_of u r ≡ Some b = sym (prepared-other u y r other') ∙ eb in
                conflicts-ordered c n t u a b r (rest-fits c n y r fit) ne ea' eb' both
          ]
    ]
  where
    first : (w : TxId) (x : Prepared) → v ≡ w
        → prepared_of w (record'.Prepared v home parts sid p reads writes ∷ r) ≡ Some x
        → (let z : Prepared = record { home = home; sid = sid; proposal = p; reads = reads; writes = writes } in z ≡ x)
    first w x same e =
        let z : Prepared = record { home = home; sid = sid; proposal = p; reads = reads; writes = writes } in
        let P : TxId → Type 0 = λ i. prepared_of i (record'.Prepared v home parts sid p reads writes ∷ r) ≡ Some z in
        let e' : prepared_of w (record'.Prepared v home parts sid p reads writes ∷ r) ≡ Some z = subst P same (prepared-first c n r v home parts sid p reads writes (newest-fits c n (record'.Prepared v home parts sid p reads writes) r fit)) in
        let both : Some z ≡ Some x = sym e' ∙ e in
        (cc)
conflicts-ordered c n t u a b (y ∷ r) fit ne ea eb both = elim (conflicts-ordered c n t u a b r (rest-fits c n y r fit) ne ea eb both) [
  | inl before ↦ inl (before-stays c n t a b y r fit before)
  | inr before ↦ inr (before-stays c n u b a y r fit before)
]
