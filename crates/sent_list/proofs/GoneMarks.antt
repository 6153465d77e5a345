-- Marks behind a mark and behind more places, and the first place that is not marked.
use Rattle.std.proofs.Common.{◌≡◌, ℕ, ◌+◌, ◌-◌, zero, suc, ◌<◌, ◌≤◌, ◌==◌, ◌||◌, Bool, true, false, List, [], ◌∷◌, ◌++◌, ◌∙◌, length, map, drop, Some, None, refl, sym, ap, subst, inl, inr, arith, slice_set, slice_index_or, if◌then◌else◌}
use Rattle.std.proofs.lemmas.Bool.{cases_eq}
use Rattle.std.proofs.lemmas.List.{get_or-set_same, get_or-set_other}
use Rattle.std.proofs.lemmas.Bool.Decides.{nat_tests}
use Rattle.grid_model.specs.Schedules.{first_in}
use Rattle.sent_list.specs.SentLists.{is_marked, marked, passed}

-- ---- numbers from 1 on

pub not_zero : (k : ℕ) → (suc k == 0) ≡ false
not_zero k = grind (arith, nat_tests)

at_suc : (marks : List Bool) (k : ℕ) → is_marked marks (suc k) ≡ slice_index_or marks k false
at_suc marks k =
    let back : suc k - 1 ≡ k = omega arith in
    ap (λ b. if b then false else slice_index_or marks (suc k - 1) false) (not_zero k)
    ∙ ap (λ j. slice_index_or marks j false) back

pub set_suc : (marks : List Bool) (k : ℕ) → marked (suc k) marks ≡ slice_set marks k true
set_suc marks k =
    let back : suc k - 1 ≡ k = omega arith in
    ap (λ b. if b then marks else slice_set marks (suc k - 1) true) (not_zero k)
    ∙ ap (λ j. slice_set marks j true) back

-- ---- one mark more

set_other : (marks : List Bool) (i k : ℕ) → i < length marks
    → slice_index_or (slice_set marks i true) k false ≡ ((i == k) || slice_index_or marks k false)
set_other marks i k within = elim (cases_eq i k) [
  | inl same ↦ subst (λ j. slice_index_or (slice_set marks i true) j false ≡ ((i == j) || slice_index_or marks j false)) same (get_or-set_same marks i true false within ∙ grind (arith, nat_tests))
  | inr other ↦ get_or-set_other marks i k true false (λ e. other (sym e)) ∙ grind (arith, nat_tests)
]

both_suc : (i k : ℕ) → (i == k) ≡ (suc i == suc k)
both_suc i k = grind (arith, nat_tests)

-- a message that was sent is marked, and no other number
pub marked_one : (marks : List Bool) (m k : ℕ) → 1 ≤ m → m ≤ length marks
    → is_marked (marked m marks) k ≡ ((m == k) || is_marked marks k)
marked_one marks zero k first last = absurd (grind (arith, first))
marked_one marks (suc i) zero first last = grind (arith, nat_tests)
marked_one marks (suc i) (suc k) first last =
    at_suc (marked (suc i) marks) k ∙ ap (λ xs. slice_index_or xs k false) (set_suc marks i)
    ∙ set_other marks i k (omega (arith, last))
    ∙ ap (λ b. b || slice_index_or marks k false) (both_suc i k)
    ∙ ap (λ b. (suc i == suc k) || b) (sym (at_suc marks k))

-- ---- more places

index_more : {A : Type 0} (marks : List Bool) (ms : List A) (k : ℕ)
    → slice_index_or (marks ++ map (λ m. false) ms) k false ≡ slice_index_or marks k false
index_more [] [] k = refl
index_more [] (m ∷ ms) zero = refl
index_more [] (m ∷ ms) (suc k) = index_more [] ms k
index_more (b ∷ marks) ms zero = refl
index_more (b ∷ marks) ms (suc k) = index_more marks ms k

-- a message more is not marked
pub marked_more : {A : Type 0} (marks : List Bool) (ms : List A) (m : ℕ)
    → is_marked (marks ++ map (λ x. false) ms) m ≡ is_marked marks m
marked_more marks ms zero = refl
marked_more marks ms (suc k) =
    at_suc (marks ++ map (λ x. false) ms) k ∙ index_more marks ms k ∙ sym (at_suc marks k)

-- ---- the places that are marked from the first on

passed_same : (marks : List Bool) → passed marks ≡ passed marks + passed (drop (passed marks) marks)
passed_same [] = refl
passed_same (false ∷ marks) = refl
passed_same (true ∷ marks) = let on = passed_same marks in omega (arith, on)

passed_set : (marks : List Bool) (i : ℕ)
    → passed (slice_set marks i true) ≡ passed marks + passed (drop (passed marks) (slice_set marks i true))
passed_set [] i = refl
passed_set (false ∷ marks) i = grind arith
passed_set (true ∷ marks) zero = passed_same (true ∷ marks)
passed_set (true ∷ marks) (suc i) = let on = passed_set marks i in omega (arith, on)

-- a message is gone: the places that were marked from the first on still are
pub passed_marked : (marks : List Bool) (m : ℕ)
    → passed (marked m marks) ≡ passed marks + passed (drop (passed marks) (marked m marks))
passed_marked marks zero = passed_same marks
passed_marked marks (suc i) =
    subst (λ xs. passed xs ≡ passed marks + passed (drop (passed marks) xs)) (sym (set_suc marks i)) (passed_set marks i)

-- the same by a number for the places before
pub passed_from : (marks xs : List Bool) (m before : ℕ) → xs ≡ marked m marks → before ≡ passed marks
    → passed xs ≡ before + passed (drop before xs)
passed_from marks xs m before is from = rw (is, from) (passed_marked marks m)

pub passed_within : (marks : List Bool) → passed marks ≤ length marks
passed_within [] = omega arith
passed_within (false ∷ marks) = omega arith
passed_within (true ∷ marks) = let under = passed_within marks in omega (arith, under)

-- places more that are not marked move nothing
pub passed_more : {A : Type 0} (marks : List Bool) (ms : List A) → passed (marks ++ map (λ m. false) ms) ≡ passed marks
passed_more [] [] = refl
passed_more [] (m ∷ ms) = refl
passed_more (false ∷ marks) ms = refl
passed_more (true ∷ marks) ms = ap suc (passed_more marks ms)

-- ---- the first number that is not marked

at_first : (f : ℕ → Bool) (m : ℕ) (b : Bool) → f (m + 0) ≡ b → f m ≡ b
at_first f m b is = let same : m ≡ m + 0 = omega arith in ap f same ∙ is

at_next : (f : ℕ → Bool) (m k : ℕ) (b : Bool) → f (m + suc k) ≡ b → f ((m + 1) + k) ≡ b
at_next f m k b is = let same : (m + 1) + k ≡ m + suc k = omega arith in ap f same ∙ is

first_some : (f : ℕ → Bool) (m : ℕ) (marks : List Bool)
    → ((k : ℕ) → k < length marks → f (m + k) ≡ slice_index_or marks k false) → passed marks < length marks
    → first_in f m (length marks) ≡ Some (m + passed marks)
first_some f m [] is some = absurd (grind (arith, some))
first_some f m (false ∷ marks) is some =
    ap (λ b. if b then first_in f (m + 1) (length marks) else Some m) (at_first f m _ (is 0 (omega arith))) ∙ ap Some (omega arith)
first_some f m (true ∷ marks) is some =
    ap (λ b. if b then first_in f (m + 1) (length marks) else Some m) (at_first f m _ (is 0 (omega arith)))
    ∙ first_some f (m + 1) marks (λ k h. at_next f m k _ (is (suc k) (omega (arith, h)))) (omega (arith, some))
    ∙ ap Some (omega arith)

first_none : (f : ℕ → Bool) (m : ℕ) (marks : List Bool)
    → ((k : ℕ) → k < length marks → f (m + k) ≡ slice_index_or marks k false) → length marks ≤ passed marks
    → first_in f m (length marks) ≡ None
first_none f m [] is all = refl
first_none f m (false ∷ marks) is all = absurd (grind (arith, all))
first_none f m (true ∷ marks) is all =
    ap (λ b. if b then first_in f (m + 1) (length marks) else Some m) (at_first f m _ (is 0 (omega arith)))
    ∙ first_none f (m + 1) marks (λ k h. at_next f m k _ (is (suc k) (omega (arith, h)))) (omega (arith, all))

from_one : (marks : List Bool) (k : ℕ) → is_marked marks (1 + k) ≡ slice_index_or marks k false
from_one marks k = let same : 1 + k ≡ suc k = omega arith in ap (is_marked marks) same ∙ at_suc marks k

-- the first message that is not gone stands behind those that are gone from the first on
pub left_some : (marks : List Bool) (count before : ℕ) → length marks ≡ count → before ≡ passed marks
    → before < length marks → Some (before + 1) ≡ first_in (is_marked marks) 1 count
left_some marks count before even from some =
    let some_is : passed marks < length marks = omega (arith, from, some) in
    let next : before + 1 ≡ 1 + passed marks = omega (arith, from) in
    ap Some next ∙ sym (ap (first_in (is_marked marks) 1) (sym even) ∙ first_some (is_marked marks) 1 marks (λ k h. from_one marks k) some_is)

pub left_none : (marks : List Bool) (count before : ℕ) → length marks ≡ count → before ≡ passed marks
    → length marks ≤ before → None ≡ first_in (is_marked marks) 1 count
left_none marks count before even from all =
    let all_are : length marks ≤ passed marks = omega (arith, from, all) in
    sym (ap (first_in (is_marked marks) 1) (sym even) ∙ first_none (is_marked marks) 1 marks (λ k h. from_one marks k) all_are)
