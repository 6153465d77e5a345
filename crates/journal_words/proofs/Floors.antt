-- What is a new proposal above, and what does the floor cover?
use Rattle.std.proofs.Common.{◌≤◌, ◌<◌, ◌≡◌, true, List, [], ◌∷◌, Some, refl, arith}
use Rattle.std.proofs.lemmas.Bool.Decides.{nat_tests}
use Rattle.score_base.specs.declared.ids.TxId.{TxId}
use Rattle.score_base.specs.declared.ids.Ident.{Ident}
use Rattle.score_base.specs.declared.causes.Outcome.TheVariants as outcome
use Rattle.score_base.specs.declared.records.Record.{Record}
use Rattle.score_base.specs.declared.records.Record.TheVariants as record'
use Rattle.journal_words.specs.Journals.{pending, ended, commits, floor, is_above}
use Rattle.journal_words.proofs.Pairs.{has_pair}

-- ---- the floor grows

pub floor-grows : (y : Record) (r : List Record) → floor r ≤ floor (y ∷ r)
floor-grows (record'.Prepared u home parts sid p reads writes) r = omega arith
floor-grows (record'.Ended u (outcome.Commit f)) r = omega arith
floor-grows (record'.Ended u outcome.Abort) r = omega arith
floor-grows (record'.Ceiling c) r = omega arith
floor-grows y r = omega arith

-- ---- the floor covers each proposal and each final identifier

pub pending-floor : (t : TxId) (p : Ident) (r : List Record) → pending t r ≡ Some p → p ≤ floor r
pending-floor t p [] h = absurd (grind (arith, h))
pending-floor t p (record'.Prepared u home parts sid q reads writes ∷ r) h = grind (arith, nat_tests, pending-floor t p r)
pending-floor t p (record'.Ended u (outcome.Commit f) ∷ r) h = grind (arith, nat_tests, pending-floor t p r)
pending-floor t p (record'.Ended u outcome.Abort ∷ r) h = grind (arith, nat_tests, pending-floor t p r)
pending-floor t p (record'.Ceiling d ∷ r) h = omega (arith, pending-floor t p r h)
pending-floor t p (y ∷ r) h = pending-floor t p r h

pub commits-floor : (t : TxId) (f : Ident) (r : List Record) → has_pair t f (commits r) ≡ true → f ≤ floor r
commits-floor t f [] h = absurd (grind (arith, h))
commits-floor t f (record'.Prepared u home parts sid q reads writes ∷ r) h = omega (arith, commits-floor t f r h)
commits-floor t f (record'.Ended u (outcome.Commit e) ∷ r) h = grind (arith, nat_tests, commits-floor t f r)
commits-floor t f (record'.Ended u outcome.Abort ∷ r) h = commits-floor t f r h
commits-floor t f (record'.Ceiling d ∷ r) h = omega (arith, commits-floor t f r h)
commits-floor t f (y ∷ r) h = commits-floor t f r h

-- ---- above every proposal and every final identifier

-- each identifier above the floor is
pub floor-above : (p : Ident) (r : List Record) → floor r < p → is_above p r ≡ true
floor-above p [] h = refl
floor-above p (record'.Prepared u home parts sid q reads writes ∷ r) h = grind (arith, nat_tests, floor-above p r)
floor-above p (record'.Ended u (outcome.Commit f) ∷ r) h = grind (arith, nat_tests, floor-above p r)
floor-above p (record'.Ended u outcome.Abort ∷ r) h = floor-above p r h
floor-above p (record'.Ceiling d ∷ r) h = floor-above p r (omega arith)
floor-above p (y ∷ r) h = floor-above p r h

-- and each above another such
pub above-higher : (p q : Ident) (r : List Record) → p ≤ q → is_above p r ≡ true → is_above q r ≡ true
above-higher p q [] le h = refl
above-higher p q (record'.Prepared u home parts sid e reads writes ∷ r) le h = grind (arith, nat_tests, above-higher p q r le)
above-higher p q (record'.Ended u (outcome.Commit f) ∷ r) le h = grind (arith, nat_tests, above-higher p q r le)
above-higher p q (record'.Ended u outcome.Abort ∷ r) le h = above-higher p q r le h
above-higher p q (y ∷ r) le h = above-higher p q r le h

pub above-final : (p : Ident) (t : TxId) (f : Ident) (r : List Record) → is_above p r ≡ true
    → ended t r ≡ Some (outcome.Commit f) → f < p
above-final p t f [] a h = absurd (grind (arith, h))
above-final p t f (record'.Prepared u home parts sid e reads writes ∷ r) a h = grind (arith, nat_tests, above-final p t f r)
above-final p t f (record'.Ended u (outcome.Commit g) ∷ r) a h = grind (arith, nat_tests, above-final p t f r)
above-final p t f (record'.Ended u outcome.Abort ∷ r) a h = grind (arith, nat_tests, above-final p t f r)
above-final p t f (y ∷ r) a h = above-final p t f r a h

pub above-commits : (p : Ident) (t : TxId) (f : Ident) (r : List Record) → is_above p r ≡ true
    → has_pair t f (commits r) ≡ true → f < p
above-commits p t f [] a h = absurd (grind (arith, h))
above-commits p t f (record'.Prepared u home parts sid e reads writes ∷ r) a h = grind (arith, nat_tests, above-commits p t f r)
above-commits p t f (record'.Ended u (outcome.Commit g) ∷ r) a h = grind (arith, nat_tests, above-commits p t f r)
above-commits p t f (record'.Ended u outcome.Abort ∷ r) a h = above-commits p t f r a h
above-commits p t f (y ∷ r) a h = above-commits p t f r a h
