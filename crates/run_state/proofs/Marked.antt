-- Which numbers are marked behind a mark.
use Rattle.std.proofs.Common.{◌≡◌, ℕ, zero, suc, ◌<◌, ◌==◌, ◌||◌, Bool, true, false, List, [], ◌∷◌, ◌++◌, ◌∙◌, length, refl, sym, subst, inl, inr, arith, slice_set, slice_index_or}
use Rattle.std.proofs.lemmas.Bool.{cases_eq}
use Rattle.std.proofs.lemmas.List.{get_or-set_same, get_or-set_other}
use Rattle.std.proofs.lemmas.Bool.Decides.{nat_tests}
use Rattle.run_state.specs.Kept.{is_marked}

-- a place more, of what stands behind the list
pub or_more : {A : Type 0} (xs : List A) (d : A) (k : ℕ) → slice_index_or (xs ++ d ∷ []) k d ≡ slice_index_or xs k d
or_more [] d zero = refl
or_more [] d (suc k) = refl
or_more (x ∷ xs) d zero = refl
or_more (x ∷ xs) d (suc k) = or_more xs d k

-- a place more, not marked
pub marked_more : (xs : List Bool) (k : ℕ) → is_marked (xs ++ false ∷ []) k ≡ is_marked xs k
marked_more xs k = or_more xs false k

-- a place that is marked
pub marked_set : (xs : List Bool) (m k : ℕ) → m < length xs
    → is_marked (slice_set xs m true) k ≡ ((m == k) || is_marked xs k)
marked_set xs m k h = elim (cases_eq m k) [
  | inl same ↦ subst (λ j. is_marked (slice_set xs m true) j ≡ ((m == j) || is_marked xs j)) same (get_or-set_same xs m true false h ∙ grind (arith, nat_tests))
  | inr other ↦ get_or-set_other xs m k true false (λ e. other (sym e)) ∙ grind (arith, nat_tests)
]
