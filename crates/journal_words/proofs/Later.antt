-- What do the Decided of a transaction behind the first k of them say of it?
use Rattle.std.proofs.Common.{ℕ, ◌≤◌, ◌≡◌, Bool, true, false, List, [], ◌∷◌, Option, Some, None, refl, ◌∙◌, arith, if◌then◌else◌}
use Rattle.std.proofs.lemmas.Bool.Decides.{nat_tests}
use Rattle.score_base.specs.declared.ids.TxId.{TxId}
use Rattle.score_base.specs.declared.records.Record.{Record}
use Rattle.score_base.specs.declared.records.Record.TheVariants as record'
use Rattle.journal_words.specs.Journals.{Decision, decision, is_closed, undone, times_decided, later_decision, times_over}

-- ---- behind none of them

-- there are Decided of t exactly where there is a last one
pub undecided-times : (t : TxId) (r : List Record) → decision t r ≡ None → times_decided t r ≡ 0
undecided-times t [] is = refl
undecided-times t (record'.Decided u f parts ∷ r) is = grind (arith, nat_tests, undecided-times t r)
undecided-times t (x ∷ r) is = undecided-times t r is

pub decided-times : (t : TxId) (r : List Record) (y : Decision) → decision t r ≡ Some y → 1 ≤ times_decided t r
decided-times t [] y is = grind arith
decided-times t (record'.Decided u f parts ∷ r) y is = grind (arith, nat_tests, decided-times t r y)
decided-times t (x ∷ r) y is = decided-times t r y is

-- behind none of them it is the last Decided
pub later-all : (t : TxId) (r : List Record) → later_decision 0 t r ≡ decision t r
later-all t r = go (decision t r) refl
  where
    go : (o : Option Decision) → decision t r ≡ o → later_decision 0 t r ≡ decision t r
    go None is = rw (is, undecided-times t r is) refl
    go (Some y) is = let some = decided-times t r y is in grind (arith, nat_tests, some)

-- what is decided nowhere is not decided later
pub undecided-later : (k : ℕ) (t : TxId) (r : List Record) → decision t r ≡ None → later_decision k t r ≡ None
undecided-later k t r is = rw (is, undecided-times t r is) (grind (arith, nat_tests))

-- a record more takes no later decision away
pub later-more : (k : ℕ) (t : TxId) (x : Record) (r : List Record) → later_decision k t (x ∷ r) ≡ None
    → later_decision k t r ≡ None
later-more k t (record'.Decided u f parts) r none = grind (arith, nat_tests)
later-more k t x r none = none

-- ---- where the first k of them are over

-- the first k Decided of t are over: none of them stands open
pub record AreOver (k : ℕ) (t : TxId) (r : List Record) : Type 0 where
  pub most : k ≤ times_decided t r
  pub rest : undone t r ≡ (if is_closed t r then None else later_decision k t r)

pub over-now : (t : TxId) (r : List Record) → AreOver (times_over t r) t r
over-now t r = go (undone t r) refl
  where
    go : (o : Option Decision) → undone t r ≡ o → AreOver (times_over t r) t r
    go None is = rw is (record { most = grind arith; rest = rw is (grind (arith, nat_tests)) })
    go (Some y) is = rw is (record { most = grind arith; rest = rw (later-all t r) refl })

pub over-more : (k : ℕ) (t : TxId) (x : Record) (r : List Record) → AreOver k t r → AreOver k t (x ∷ r)
over-more k t (record'.Decided u f parts) r over = record { most = grind (arith, over.most); rest = grind (arith, nat_tests, over.most, over.rest) }
over-more k t (record'.Closed u) r over = record { most = over.most; rest = grind (arith, nat_tests, over.rest) }
over-more k t x r over = record { most = over.most; rest = over.rest }

-- behind those that are over stands the last Decided, where it stands open
pub later-now : (t : TxId) (r : List Record) → later_decision (times_over t r) t r ≡ undone t r
later-now t r = go (is_closed t r) (undone t r) refl refl
  where
    go : (closed : Bool) (o : Option Decision) → is_closed t r ≡ closed → undone t r ≡ o
        → later_decision (times_over t r) t r ≡ undone t r
    go closed None at is = rw is (grind (arith, nat_tests))
    go true (Some y) at is = grind (arith, at, is)
    go false (Some y) at is = rw is (later-all t r ∙ (rw at at is))

-- where nothing was decided before, all Decided count
pub fresh-times : (t : TxId) (r : List Record) → decision t r ≡ None → times_over t r ≡ 0
fresh-times t r is = rw (undecided-times t r is) (grind arith)
