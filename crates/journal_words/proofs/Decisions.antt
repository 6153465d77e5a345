-- Which records change what is decided, closed and undone, and what does a decision say?
use Rattle.std.proofs.Common.{◌≡◌, inl, inr, Bool, true, false, ◌&&◌, ◌||◌, List, [], ◌∷◌, Option, Some, None, is_some, refl, subst, arith, if◌then◌else◌}
use Rattle.std.proofs.lemmas.Bool.{cases_eq, or_right}
use Rattle.std.proofs.lemmas.Bool.Decides.{nat_tests}
use Rattle.std.specs.Prelude.{◌==◌}
use Rattle.score_base.specs.declared.ids.TxId.{TxId}
use Rattle.score_base.specs.declared.ids.NodeId.{NodeId}
use Rattle.score_base.specs.declared.ids.Ident.{Ident}
use Rattle.score_base.specs.declared.records.Record.{Record}
use Rattle.score_base.specs.declared.records.Record.TheVariants as record'
use Rattle.placement.specs.Clusters.{ClusterData}
use Rattle.journal_words.specs.Journals.{Decision, decision, is_closed, undone, all_fit, has_decided}
use Rattle.journal_words.proofs.Fits.{closed-fits, newest-fits, rest-fits}

-- ---- which records change them

-- the record is a Decided of t
abbrev pub decides : TxId → Record → Bool
decides t (record'.Decided u f parts) = u == t
decides t y = false

-- the record is a Closed of t
abbrev pub closes : TxId → Record → Bool
closes t (record'.Closed u) = u == t
closes t y = false

-- a Decided
pub decided-here : (t : TxId) (f : Ident) (parts : List NodeId) (r : List Record)
    → decision t (record'.Decided t f parts ∷ r) ≡ Some (record { final = f; parts = parts })
decided-here t f parts r = (let self : t == t ≡ true = grind (arith, nat_tests) in rw self refl)

-- a Closed
pub closed-here : (t : TxId) (r : List Record) → is_closed t (record'.Closed t ∷ r) ≡ true
closed-here t r = (let self : t == t ≡ true = grind (arith, nat_tests) in rw self refl)

-- ---- undone is: decided, and not closed

-- what an undone transaction is
pub record IsUndone (t : TxId) (x : Decision) (r : List Record) : Type 0 where
  pub decided : decision t r ≡ Some x
  pub open' : is_closed t r ≡ false

pub undone-says : (t : TxId) (x : Decision) (r : List Record) → undone t r ≡ Some x → IsUndone t x r
undone-says t x r h = go (is_closed t r) refl h
  where
    go : (b : Bool) → is_closed t r ≡ b → (if b then None else decision t r) ≡ Some x → IsUndone t x r
    go true e h = absurd (grind (arith, h))
    go false e h = record { decided = h; open' = e }

-- ---- what stands

some-decision : (o : Option Decision) → is_some o ≡ true → (x : Decision) × (o ≡ Some x)
some-decision None h = absurd (grind (arith, h))
some-decision (Some x) h = (x, refl)

pub decision-some : (t : TxId) (y : Record) (r : List Record) → is_some (decision t r) ≡ true
    → is_some (decision t (y ∷ r)) ≡ true
decision-some t (record'.Decided u f parts) r h = grind (arith, h)
decision-some t y r h = h

-- who is closed was decided
pub closed-decided : (c : ClusterData) (n : NodeId) (t : TxId) (r : List Record) → all_fit c n r ≡ true
    → is_closed t r ≡ true → (x : Decision) × (decision t r ≡ Some x)
closed-decided c n t [] fit h = absurd (grind (arith, h))
closed-decided c n t (record'.Closed u ∷ r) fit h = elim (cases_eq u t) [
  | inl same ↦
      let x = closed-fits c n r u (newest-fits c n (record'.Closed u) r fit) in
      let s = undone-says u x.0 r x.1 in
      let P : TxId → Type 0 = λ v. decision v r ≡ Some x.0 in
      (x.0, subst P same s.decided)
  | inr other ↦
      let self : u == t ≡ false = grind (arith, nat_tests) in
      closed-decided c n t r (rest-fits c n (record'.Closed u) r fit) (rw self at h)
]
closed-decided c n t (record'.Decided u f parts ∷ r) fit h = elim (cases_eq u t) [
  | inl same ↦ absurd (let self : u == t ≡ true = grind (arith, nat_tests) in grind (arith, h, self))
  | inr other ↦
      let self : u == t ≡ false = grind (arith, nat_tests) in
      let x = closed-decided c n t r (rest-fits c n (record'.Decided u f parts) r fit) (rw self at h) in
      (x.0, rw self x.1)
]
closed-decided c n t (y ∷ r) fit h = closed-decided c n t r (rest-fits c n y r fit) h

-- ---- a Decided with a final identifier

pub decision-has : (t : TxId) (x : Decision) (r : List Record) → decision t r ≡ Some x → has_decided t x.final r ≡ true
decision-has t x [] h = absurd (grind (arith, h))
decision-has t x (record'.Decided u f parts ∷ r) h = go (u == t) refl h (decision-has t x r)
  where
    go : (b : Bool) → u == t ≡ b → (if b then Some (record { final = f; parts = parts }) else decision t r) ≡ Some x
        → (decision t r ≡ Some x → has_decided t x.final r ≡ true)
        → ((u == t && f == x.final) || has_decided t x.final r) ≡ true
    go true e h rest =
        let is : (let y : Decision = record { final = f; parts = parts } in y ≡ x) = grind (arith, h) in
        let P : Decision → Type 0 = λ y. ((u == t && f == y.final) || has_decided t y.final r) ≡ true in
        subst P is (grind (arith, nat_tests, e))
    go false e h rest = or_right (u == t && f == x.final) (has_decided t x.final r) (rest h)
decision-has t x (y ∷ r) h = decision-has t x r h

has_decided-any : (t : TxId) (f : Ident) (r : List Record) → has_decided t f r ≡ true → is_some (decision t r) ≡ true
has_decided-any t f [] h = absurd (grind (arith, h))
has_decided-any t f (record'.Decided u e parts ∷ r) h = grind (arith, nat_tests, has_decided-any t f r)
has_decided-any t f (y ∷ r) h = has_decided-any t f r h

pub has_decided-says : (t : TxId) (f : Ident) (r : List Record) → has_decided t f r ≡ true
    → (x : Decision) × (decision t r ≡ Some x)
has_decided-says t f r h = some-decision (decision t r) (has_decided-any t f r h)

pub has_decided-grows : (t : TxId) (f : Ident) (y : Record) (r : List Record) → has_decided t f r ≡ true
    → has_decided t f (y ∷ r) ≡ true
has_decided-grows t f (record'.Decided u e parts) r h = or_right (u == t && e == f) (has_decided t f r) h
has_decided-grows t f y r h = h
