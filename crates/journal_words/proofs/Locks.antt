-- Which transactions lock their keys, and who may do so beside another?
use Rattle.std.proofs.Common.{◌<◌, ◌≡◌, ◌≢◌, inl, inr, Bool, true, false, ◌&&◌, ◌||◌, not, List, [], ◌∷◌, Option, Some, None, is_some, refl, sym, subst, arith, if◌then◌else◌}
use Rattle.std.proofs.lemmas.Bool.{cases_eq, or_cases, or_left, or_right}
use Rattle.std.proofs.lemmas.Bool.Decides.{nat_tests}
use Rattle.std.specs.Prelude.{◌==◌, nat_lt}
use Rattle.score_base.specs.declared.ids.TxId.{TxId}
use Rattle.score_base.specs.declared.ids.NodeId.{NodeId}
use Rattle.score_base.specs.declared.ids.Ident.{Ident}
use Rattle.score_base.specs.declared.ids.Value.{Value}
use Rattle.score_base.specs.declared.keys.Key.{Key}
use Rattle.score_base.specs.declared.causes.Outcome.{Outcome}
use Rattle.score_base.specs.declared.causes.Outcome.TheVariants as outcome
use Rattle.score_base.specs.declared.records.Record.{Record}
use Rattle.score_base.specs.declared.records.Record.TheVariants as record'
use Rattle.placement.specs.Clusters.{ClusterData}
use Rattle.journal_words.specs.Journals.{Prepared, prepared_of, prepared_all, pending, is_clear, ended, conflicts_with, is_unapplied, is_locking, lesser, holder_among, holder, all_fit, are_apart}
use Rattle.journal_words.proofs.KeyLists.{conflict-turned}
use Rattle.journal_words.proofs.Fits.{prepared-fits, outcome-fits, newest-fits, rest-fits}
use Rattle.journal_words.proofs.Once.{prepares, prepared-other, prepared-first}
use Rattle.journal_words.proofs.Pendings.{is_over, clear-more}
use Rattle.journal_words.proofs.Floors.{above-final}

-- ---- no holder

abbrev pub is_listed : TxId → List TxId → Bool
is_listed t [] = false
is_listed t (u ∷ us) = (u == t) || is_listed t us

pub prepared-listed : (u : TxId) (r : List Record) → is_some (prepared_of u r) ≡ true
    → is_listed u (prepared_all r) ≡ true
prepared-listed u [] h = absurd (grind (arith, h))
prepared-listed u (record'.Prepared v home parts sid p reads writes ∷ r) h = grind (arith, nat_tests, prepared-listed u r)
prepared-listed u (y ∷ r) h = prepared-listed u r h

holder-here : (b l d : Bool) (v : TxId) (o : Option TxId) → (if b && (l && d) then lesser v o else o) ≡ None → b ≡ true
    → l ≡ true → d ≡ false
holder-here b l d v None h e k = grind (arith, h, e, k)
holder-here b l d v (Some w) h e k = grind (arith, h, e, k)

holder-rest : (b : Bool) (v : TxId) (o : Option TxId) → (if b then lesser v o else o) ≡ None → o ≡ None
holder-rest b v None h = refl
holder-rest true v (Some w) h = grind (arith, h)
holder-rest false v (Some w) h = h

none-holds : (us : List TxId) (r : List Record) (t : TxId) (reads : List Key) (writes : List (Key × Value)) (u : TxId)
    → holder_among us r t reads writes ≡ None → is_listed u us ≡ true → u ≢ t → is_locking u r ≡ true
    → conflicts_with (prepared_of u r) reads writes ≡ false
none-holds [] r t reads writes u h is ne l = absurd (grind (arith, is))
none-holds (v ∷ us) r t reads writes u h is ne l = elim (cases_eq v u) [
  | inl same ↦
      let P : TxId → Type 0 = λ w. conflicts_with (prepared_of w r) reads writes ≡ false in
      let L : TxId → Type 0 = λ w. is_locking w r ≡ true in
      subst P same (holder-here (not (v == t)) (is_locking v r) (conflicts_with (prepared_of v r) reads writes) v (holder_among us r t reads writes) h (grind (arith, nat_tests)) (subst L (sym same) l))
  | inr other ↦ none-holds us r t reads writes u (holder-rest (not (v == t) && (is_locking v r && conflicts_with (prepared_of v r) reads writes)) v (holder_among us r t reads writes) h) (grind (arith, nat_tests)) ne l
]

-- where there is no holder, nobody else who locks conflicts
pub holder-free : (r : List Record) (t : TxId) (reads : List Key) (writes : List (Key × Value)) (u : TxId)
    → holder r t reads writes ≡ None → u ≢ t → is_locking u r ≡ true
    → conflicts_with (prepared_of u r) reads writes ≡ false
holder-free r t reads writes u h ne l = go (is_some (prepared_of u r)) refl
  where
    none : (o : Option Prepared) → is_some o ≡ false → conflicts_with o reads writes ≡ false
    none None e = refl
    none (Some x) e = absurd (grind (arith, e))

    go : (b : Bool) → is_some (prepared_of u r) ≡ b → conflicts_with (prepared_of u r) reads writes ≡ false
    go true e = none-holds (prepared_all r) r t reads writes u h (prepared-listed u r e) ne l
    go false e = none (prepared_of u r) e

-- ---- who locks behind a record locked before it, but for a new Prepared

unapplied-before : (o : Option Outcome) (y : Record) (r : List Record)
    → ((f : Ident) → o ≡ Some (outcome.Commit f) → is_over f y ≡ true) → is_unapplied o (y ∷ r) ≡ true
    → is_unapplied o r ≡ true
unapplied-before None y r over h = absurd (grind (arith, h))
unapplied-before (Some outcome.Abort) y r over h = absurd (grind (arith, h))
unapplied-before (Some (outcome.Commit f)) y r over h = go (is_clear f r) refl
  where
    go : (b : Bool) → is_clear f r ≡ b → not b ≡ true
    go false e = refl
    go true e = absurd (let more = clear-more f y r (over f refl) e in grind (arith, more, h))

pub pending-locks : (t : TxId) (p : Ident) (r : List Record) → pending t r ≡ Some p → is_locking t r ≡ true
pending-locks t p r h = rw h refl

pub locking-before : (c : ClusterData) (n : NodeId) (t : TxId) (y : Record) (r : List Record)
    → all_fit c n (y ∷ r) ≡ true → prepares t y ≡ false → is_locking t (y ∷ r) ≡ true → is_locking t r ≡ true
locking-before c n t (record'.Prepared u home parts sid p reads writes) r fit other h =
    let y : Record = record'.Prepared u home parts sid p reads writes in
    let above = (prepared-fits c n r u parts sid p reads writes (newest-fits c n y r fit)).above in
    let h' : (is_some (pending t r) || is_unapplied (ended t r) (y ∷ r)) ≡ true = rw other at h in
    elim (or_cases (is_some (pending t r)) (is_unapplied (ended t r) (y ∷ r)) h') [
      | inl runs ↦ or_left (is_some (pending t r)) (is_unapplied (ended t r) r) runs
      | inr waits ↦ or_right (is_some (pending t r)) (is_unapplied (ended t r) r) (unapplied-before (ended t r) y r (λ f e. over f (above-final p t f r above e)) waits)
    ]
  where
    over : (f : Ident) → f < p → nat_lt f p ≡ true
    over f lt = grind (arith, nat_tests)
locking-before c n t (record'.Ended u o) r fit other h = elim (cases_eq u t) [
  | inl same ↦
      let q = outcome-fits c n r u o (newest-fits c n (record'.Ended u o) r fit) in
      let P : TxId → Type 0 = λ v. pending v r ≡ Some q.0 in
      pending-locks t q.0 r (subst P same q.1)
  | inr ne ↦
      let self : u == t ≡ false = grind (arith, nat_tests) in
      let h' : (is_some (pending t r) || is_unapplied (ended t r) (record'.Ended u o ∷ r)) ≡ true = rw self at h in
      elim (or_cases (is_some (pending t r)) (is_unapplied (ended t r) (record'.Ended u o ∷ r)) h') [
        | inl runs ↦ or_left (is_some (pending t r)) (is_unapplied (ended t r) r) runs
        | inr waits ↦ or_right (is_some (pending t r)) (is_unapplied (ended t r) r) (unapplied-before (ended t r) (record'.Ended u o) r (λ f e. refl) waits)
      ]
]
locking-before c n t y r fit other h = elim (or_cases (is_some (pending t r)) (is_unapplied (ended t r) (y ∷ r)) h) [
  | inl runs ↦ or_left (is_some (pending t r)) (is_unapplied (ended t r) r) runs
  | inr waits ↦ or_right (is_some (pending t r)) (is_unapplied (ended t r) r) (unapplied-before (ended t r) y r (λ f e. refl) waits)
]

-- ---- two that lock do not conflict

apart-first : (x : Prepared) (o : Option Prepared) → conflicts_with o x.reads x.writes ≡ false
    → are_apart (Some x) o ≡ true
apart-first x o h = rw h refl

apart-second : (x : Prepared) (o : Option Prepared) → conflicts_with o x.reads x.writes ≡ false
    → are_apart o (Some x) ≡ true
apart-second x None h = refl
apart-second x (Some y) h = rw (conflict-turned x.reads y.reads x.writes y.writes, h) refl

pub locks-apart : (c : ClusterData) (n : NodeId) (t u : TxId) (r : List Record) → all_fit c n r ≡ true → t ≢ u
    → is_locking t r ≡ true → is_locking u r ≡ true → are_apart (prepared_of t r) (prepared_of u r) ≡ true
locks-apart c n t u [] fit ne lt lu = absurd (grind (arith, lt))
locks-apart c n t u (record'.Prepared v home parts sid p reads writes ∷ r) fit ne lt lu =
    elim (cases_eq v t) [
      | inl same ↦
          let here = first t same in
          let other : v == u ≡ false = grind (arith, nat_tests) in
          let free : conflicts_with (prepared_of u r) reads writes ≡ false = rest u other lu in
          rw (here, prepared-other u (record'.Prepared v home parts sid p reads writes) r other) (apart-first (record { home = home; sid = sid; proposal = p; reads = reads; writes = writes }) (prepared_of u r) free)
      | inr ne' ↦
          let other : v == t ≡ false = grind (arith, nat_tests) in
          elim (cases_eq v u) [
            | inl same ↦
                let here = first u same in
                let free : conflicts_with (prepared_of t r) reads writes ≡ false = rest t other lt in
                rw (here, prepared-other t (record'.Prepared v home parts sid p reads writes) r other) (apart-second (record { home = home; sid = sid; proposal = p; reads = reads; writes = writes }) (prepared_of t r) free)
            | inr ne'' ↦
                let other' : v == u ≡ false = grind (arith, nat_tests) in
                rw (prepared-other t (record'.Prepared v home parts sid p reads writes) r other, prepared-other u (record'.Prepared v home parts sid p reads writes) r other')
                (locks-apart c n t u r (rest-fits c n (record'.Prepared v home parts sid p reads writes) r fit) ne (before t other lt) (before u other' lu))
          ]
    ]
  where
    first : (w : TxId) → v ≡ w → (let x : Prepared = record { home = home; sid = sid; proposal = p; reads = reads; writes = writes } in prepared_of w (record'.Prepared v home parts sid p reads writes ∷ r) ≡ Some x)
    first w same =
        let x : Prepared = record { home = home; sid = sid; proposal = p; reads = reads; writes = writes } in
        let P : TxId → Type 0 = λ z. prepared_of z (record'.Prepared v home parts sid p reads writes ∷ r) ≡ Some x in
        subst P same (prepared-first c n r v home parts sid p reads writes (newest-fits c n (record'.Prepared v home parts sid p reads writes) r fit))

    before : (w : TxId) → v == w ≡ false → is_locking w (record'.Prepared v home parts sid p reads writes ∷ r) ≡ true
        → is_locking w r ≡ true
    before w other l = locking-before c n w (record'.Prepared v home parts sid p reads writes) r fit other l

    rest : (w : TxId) → v == w ≡ false → is_locking w (record'.Prepared v home parts sid p reads writes ∷ r) ≡ true
        → conflicts_with (prepared_of w r) reads writes ≡ false
    rest w other l =
        let free = (prepared-fits c n r v parts sid p reads writes (newest-fits c n (record'.Prepared v home parts sid p reads writes) r fit)).free in
        holder-free r v reads writes w free (grind (arith, nat_tests, other)) (before w other l)
locks-apart c n t u (y ∷ r) fit ne lt lu = locks-apart c n t u r (rest-fits c n y r fit) ne (locking-before c n t y r fit refl lt) (locking-before c n u y r fit refl lu)
