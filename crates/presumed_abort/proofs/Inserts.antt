-- A desk behind an insertion: what stands at each key, and two insertions at one key.
use Rattle.std.proofs.Common.{◌≡◌, ℕ, nat_eq, Bool, true, false, List, [], ◌∷◌, None, Some, refl, arith}
use Rattle.std.specs.Prelude.{is_some, if◌then◌else◌}
use Rattle.std.specs.Map.{lookup, remove_entry}
use Rattle.std.proofs.lemmas.Bool.Decides.{nat_tests}
use Rattle.indexmap.specs.IndexMap.{insert_entry}

module _ {A : Type 0} where
  pub inserted-same :
      (t : ℕ) (s : A) (es : List (ℕ × A)) → lookup (nat_eq t) (insert_entry nat_eq es t s) ≡ Some s
  inserted-same t s [] = grind (arith, nat_tests)
  inserted-same t s (e ∷ es) = go (nat_eq t e.0) refl (inserted-same t s es)
    where
      go :
          (b : Bool) → nat_eq t e.0 ≡ b → lookup (nat_eq t) (insert_entry nat_eq es t s) ≡ Some s
          → lookup (nat_eq t) (if b then (e.0, s) ∷ es else e ∷ insert_entry nat_eq es t s) ≡ Some s
      go true is rest = rw is refl
      go false is rest = rw is rest

  pub inserted-other :
      (t u : ℕ) (s : A) (es : List (ℕ × A))
      → nat_eq u t ≡ false → lookup (nat_eq u) (insert_entry nat_eq es t s) ≡ lookup (nat_eq u) es
  inserted-other t u s [] other = rw other refl
  inserted-other t u s (e ∷ es) other = grind (arith, nat_tests, other, inserted-other t u s es other)

  pub inserted-twice :
      (t : ℕ) (a s : A) (es : List (ℕ × A))
      → insert_entry nat_eq (insert_entry nat_eq es t a) t s ≡ insert_entry nat_eq es t s
  inserted-twice t a s [] = grind (arith, nat_tests)
  inserted-twice t a s (e ∷ es) = grind (arith, nat_tests, inserted-twice t a s es)

  pub removed-twice :
      (t : ℕ) (a : A) (es : List (ℕ × A))
      → is_some (lookup (nat_eq t) es) ≡ true
      → remove_entry (nat_eq t) (insert_entry nat_eq es t a) ≡ remove_entry (nat_eq t) es
  removed-twice t a [] there = absurd (grind (arith, there))
  removed-twice t a (e ∷ es) there = grind (arith, nat_tests, there, removed-twice t a es)

  pub removed_absent :
      (t : ℕ) (es : List (ℕ × A)) → lookup (nat_eq t) es ≡ None → es ≡ remove_entry (nat_eq t) es
  removed_absent t [] none = refl
  removed_absent t (e ∷ es) none = grind (arith, nat_tests, none, removed_absent t es)
