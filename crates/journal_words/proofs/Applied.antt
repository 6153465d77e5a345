-- Which commits are applied, and what does the next record add to them?
use Rattle.std.proofs.Common.{◌≤◌, ◌≡◌, ◌⊎◌, inl, inr, Bool, true, false, ◌&&◌, ◌||◌, max, List, [], ◌∷◌, Some, refl, sym, ap, subst, ◌∙◌, arith, if◌then◌else◌}
use Rattle.std.proofs.lemmas.Bool.{cases_Bool, and_parts, and_from, or_cases, or_right}
use Rattle.std.proofs.lemmas.Bool.Decides.{nat_tests}
use Rattle.std.specs.Prelude.{◌==◌, nat_lt}
use Rattle.score_base.specs.declared.ids.TxId.{TxId}
use Rattle.score_base.specs.declared.ids.NodeId.{NodeId}
use Rattle.score_base.specs.declared.ids.Ident.{Ident}
use Rattle.score_base.specs.declared.causes.Outcome.TheVariants as outcome
use Rattle.score_base.specs.declared.records.Record.{Record}
use Rattle.score_base.specs.declared.records.Record.TheVariants as record'
use Rattle.placement.specs.Clusters.{ClusterData}
use Rattle.journal_words.specs.Journals.{pendings, all_above, is_clear, ended, commits, applied_of, applied, greatest, commit_id, floor, fits, all_fit}
use Rattle.journal_words.proofs.Fits.{prepared-fits, commit-fits, newest-fits, rest-fits}
use Rattle.journal_words.proofs.Pairs.{has_pair, above-without}
use Rattle.journal_words.proofs.Once.{ended-stays}
use Rattle.journal_words.proofs.Pendings.{clear-pending, clear-below, is_over, clear-more}
use Rattle.journal_words.proofs.Floors.{above-commits, commits-floor}

-- ---- the commits

pub ended-commits : (t : TxId) (f : Ident) (r : List Record) → ended t r ≡ Some (outcome.Commit f)
    → has_pair t f (commits r) ≡ true
ended-commits t f [] h = absurd (grind (arith, h))
ended-commits t f (record'.Ended u (outcome.Commit e) ∷ r) h = grind (arith, nat_tests, ended-commits t f r)
ended-commits t f (record'.Ended u outcome.Abort ∷ r) h = grind (arith, nat_tests, ended-commits t f r)
ended-commits t f (y ∷ r) h = ended-commits t f r h

pub commits-ended : (c : ClusterData) (n : NodeId) (t : TxId) (f : Ident) (r : List Record) → all_fit c n r ≡ true
    → has_pair t f (commits r) ≡ true → ended t r ≡ Some (outcome.Commit f)
commits-ended c n t f [] fit h = absurd (grind (arith, h))
commits-ended c n t f (record'.Ended u (outcome.Commit e) ∷ r) fit h = elim (or_cases (u == t && e == f) (has_pair t f (commits r)) h) [
  | inl here ↦ grind (arith, nat_tests, here)
  | inr more ↦ ended-stays c n t (outcome.Commit f) (record'.Ended u (outcome.Commit e)) r fit (commits-ended c n t f r (rest-fits c n (record'.Ended u (outcome.Commit e)) r fit) more)
]
commits-ended c n t f (record'.Ended u outcome.Abort ∷ r) fit h = ended-stays c n t (outcome.Commit f) (record'.Ended u outcome.Abort) r fit (commits-ended c n t f r (rest-fits c n (record'.Ended u outcome.Abort) r fit) h)
commits-ended c n t f (y ∷ r) fit h = commits-ended c n t f r (rest-fits c n y r fit) h

pub commits-grow : (t : TxId) (f : Ident) (y : Record) (r : List Record) → has_pair t f (commits r) ≡ true
    → has_pair t f (commits (y ∷ r)) ≡ true
commits-grow t f (record'.Ended u (outcome.Commit e)) r h = or_right (u == t && e == f) (has_pair t f (commits r)) h
commits-grow t f (record'.Ended u outcome.Abort) r h = h
commits-grow t f y r h = h

-- below every pending proposal no commit comes anew
pub commits-below : (c : ClusterData) (n : NodeId) (s : Ident) (t : TxId) (f : Ident) (y : Record) (r : List Record)
    → all_fit c n (y ∷ r) ≡ true → is_clear s r ≡ true → f ≤ s → has_pair t f (commits (y ∷ r)) ≡ true
    → has_pair t f (commits r) ≡ true
commits-below c n s t f (record'.Ended u (outcome.Commit e)) r fit clear le h = elim (or_cases (u == t && e == f) (has_pair t f (commits r)) h) [
  | inl here ↦ absurd (
      let q = commit-fits c n r u e (newest-fits c n (record'.Ended u (outcome.Commit e)) r fit) in
      let lt = clear-pending s u q.0 r clear q.1 in
      let le' = q.2 in
      grind (arith, nat_tests, here))
  | inr more ↦ more
]
commits-below c n s t f (record'.Ended u outcome.Abort) r fit clear le h = h
commits-below c n s t f y r fit clear le h = h

-- ---- applied is: committed, and below every pending proposal

applied-each : (t : TxId) (f : Ident) (r : List Record) (xs : List (TxId × Ident))
    → has_pair t f (applied_of r xs) ≡ (has_pair t f xs && is_clear f r)
applied-each t f r [] = refl
applied-each t f r (x ∷ xs) = go (is_clear x.1 r) same (applied-each t f r xs)
  where
    same : (x.0 == t && x.1 == f) ≡ true → is_clear f r ≡ is_clear x.1 r
    same h = let e : f ≡ x.1 = grind (arith, nat_tests, h) in ap (λ g. is_clear g r) e

    go : (b : Bool) → ((x.0 == t && x.1 == f) ≡ true → is_clear f r ≡ b)
        → has_pair t f (applied_of r xs) ≡ (has_pair t f xs && is_clear f r)
        → has_pair t f (if b then x ∷ applied_of r xs else applied_of r xs)
        ≡ (((x.0 == t && x.1 == f) || has_pair t f xs) && is_clear f r)
    go true e more = grind (arith, e, more)
    go false e more = grind (arith, e, more)

pub applied-is : (t : TxId) (f : Ident) (r : List Record)
    → has_pair t f (applied r) ≡ (has_pair t f (commits r) && is_clear f r)
applied-is t f r = applied-each t f r (commits r)

-- what an applied commit is
pub record IsApplied (t : TxId) (f : Ident) (r : List Record) : Type 0 where
  pub committed : ended t r ≡ Some (outcome.Commit f)
  pub clear : is_clear f r ≡ true

pub applied-says : (c : ClusterData) (n : NodeId) (t : TxId) (f : Ident) (r : List Record) → all_fit c n r ≡ true
    → has_pair t f (applied r) ≡ true → IsApplied t f r
applied-says c n t f r fit h =
    let a = and_parts (has_pair t f (commits r)) (is_clear f r) (sym (applied-is t f r) ∙ h) in
    record { committed = commits-ended c n t f r fit a.0; clear = a.1 }

pub says-applied : (t : TxId) (f : Ident) (r : List Record) → ended t r ≡ Some (outcome.Commit f) → is_clear f r ≡ true
    → has_pair t f (applied r) ≡ true
says-applied t f r e clear = applied-is t f r ∙ and_from (has_pair t f (commits r)) (is_clear f r) (ended-commits t f r e) clear

-- below every pending proposal each commit is applied
pub clear-applied : (s : Ident) (t : TxId) (f : Ident) (r : List Record) → ended t r ≡ Some (outcome.Commit f)
    → is_clear s r ≡ true → f ≤ s → has_pair t f (applied r) ≡ true
clear-applied s t f r e clear le = says-applied t f r e (clear-below s f r le clear)

pub applied-floor : (t : TxId) (f : Ident) (r : List Record) → has_pair t f (applied r) ≡ true → f ≤ floor r
applied-floor t f r h = commits-floor t f r (and_parts (has_pair t f (commits r)) (is_clear f r) (sym (applied-is t f r) ∙ h)).0

-- ---- growth

-- a record that fits has no proposal at or below a commit
pub commit-under : (c : ClusterData) (n : NodeId) (t : TxId) (f : Ident) (y : Record) (r : List Record)
    → fits c n r y ≡ true → has_pair t f (commits r) ≡ true → is_over f y ≡ true
commit-under c n t f (record'.Prepared u home parts sid p reads writes) r fit h =
    let above = (prepared-fits c n r u parts sid p reads writes fit).above in
    let lt = above-commits p t f r above h in
    grind (arith, nat_tests)
commit-under c n t f y r fit h = refl

pub applied-grows : (c : ClusterData) (n : NodeId) (t : TxId) (f : Ident) (y : Record) (r : List Record)
    → fits c n r y ≡ true → has_pair t f (applied r) ≡ true → has_pair t f (applied (y ∷ r)) ≡ true
applied-grows c n t f y r fit h =
    let a = and_parts (has_pair t f (commits r)) (is_clear f r) (sym (applied-is t f r) ∙ h) in
    applied-is t f (y ∷ r) ∙ and_from (has_pair t f (commits (y ∷ r))) (is_clear f (y ∷ r)) (commits-grow t f y r a.0) (clear-more f y r (commit-under c n t f y r fit a.0) a.1)

-- below every pending proposal nothing is applied anew
pub applied-below : (c : ClusterData) (n : NodeId) (s : Ident) (t : TxId) (f : Ident) (y : Record) (r : List Record)
    → all_fit c n (y ∷ r) ≡ true → is_clear s r ≡ true → f ≤ s → has_pair t f (applied (y ∷ r)) ≡ true
    → has_pair t f (applied r) ≡ true
applied-below c n s t f y r fit clear le h =
    let a = and_parts (has_pair t f (commits (y ∷ r))) (is_clear f (y ∷ r)) (sym (applied-is t f (y ∷ r)) ∙ h) in
    applied-is t f r ∙ and_from (has_pair t f (commits r)) (is_clear f r) (commits-below c n s t f y r fit clear le a.0) (clear-below s f r le clear)

-- ---- the commit identifier

pub greatest-one : (xs : List (TxId × Ident)) → (greatest xs ≡ 0) ⊎ ((t : TxId) × (has_pair t (greatest xs) xs ≡ true))
greatest-one [] = inl refl
greatest-one (x ∷ xs) = elim (cases_Bool (nat_lt (greatest xs) x.1)) [
  | inl here ↦
      let is : max x.1 (greatest xs) ≡ x.1 = grind (arith, nat_tests, here) in
      inr (x.0, rw is (grind (arith, nat_tests)))
  | inr rest ↦
      let is : max x.1 (greatest xs) ≡ greatest xs = grind (arith, nat_tests, rest) in
      elim (greatest-one xs) [
        | inl none ↦ inl (is ∙ none)
        | inr one ↦ inr (one.0, (let P : Ident → Type 0 = λ g. has_pair one.0 g (x ∷ xs) ≡ true in subst P (sym is) (or_right (x.0 == one.0 && x.1 == greatest xs) (has_pair one.0 (greatest xs) xs) one.1)))
      ]
]

pub zero-clear : (c : ClusterData) (n : NodeId) (r : List Record) → all_fit c n r ≡ true → is_clear 0 r ≡ true
zero-clear c n [] fit = refl
zero-clear c n (record'.Prepared u home parts sid p reads writes ∷ r) fit =
    let fresh = (prepared-fits c n r u parts sid p reads writes (newest-fits c n (record'.Prepared u home parts sid p reads writes) r fit)).fresh in
    and_from (nat_lt 0 p) (all_above 0 (pendings r)) (grind (arith, nat_tests)) (zero-clear c n r (rest-fits c n (record'.Prepared u home parts sid p reads writes) r fit))
zero-clear c n (record'.Ended u o ∷ r) fit = above-without 0 u (pendings r) (zero-clear c n r (rest-fits c n (record'.Ended u o) r fit))
zero-clear c n (y ∷ r) fit = zero-clear c n r (rest-fits c n y r fit)

-- it is below every pending proposal
pub commit_id-clear : (c : ClusterData) (n : NodeId) (r : List Record) → all_fit c n r ≡ true
    → is_clear (commit_id r) r ≡ true
commit_id-clear c n r fit = elim (greatest-one (applied r)) [
  | inl none ↦ (let P : Ident → Type 0 = λ s. is_clear s r ≡ true in subst P (sym none) (zero-clear c n r fit))
  | inr one ↦ (applied-says c n one.0 (commit_id r) r fit one.1).clear
]

pub commit_id-floor : (r : List Record) → commit_id r ≤ floor r
commit_id-floor r = elim (greatest-one (applied r)) [
  | inl none ↦ (let e : commit_id r ≡ 0 = none in omega arith)
  | inr one ↦ applied-floor one.0 (commit_id r) r one.1
]
