-- Lists of pairs, read by the first of each pair.
use Rattle.std.specs.Prelude.{◌≡◌, ℕ, ◌<◌, ◌==◌, List, [], ◌∷◌, ◌++◌, length, Option, Some, None, slice_index_or, slice_set, if◌then◌else◌}

-- what the first pair of this key has
abbrev pub at_key : {A : Type 0} → ℕ → List (ℕ × A) → Option A
at_key k [] = None
at_key k (x ∷ xs) = if x.0 == k then Some x.1 else at_key k xs

-- the list with this at the key, in its place, or last where the key is new
abbrev pub put_key : {A : Type 0} → ℕ → A → List (ℕ × A) → List (ℕ × A)
put_key k a [] = (k, a) ∷ []
put_key k a (x ∷ xs) = if x.0 == k then (k, a) ∷ xs else x ∷ put_key k a xs

-- the first pair of this key stands at i
pub record IsPlace {A : Type 0} (k : ℕ) (xs : List (ℕ × A)) (i : ℕ) : Type 0 where
  pub inside : i < length xs
  pub value : A
  pub at : at_key k xs ≡ Some value
  pub here : (d : ℕ × A) → slice_index_or xs i d ≡ (k, value)
  pub put : (a : A) → put_key k a xs ≡ slice_set xs i (k, a)

-- no pair has this key
pub record IsAbsent {A : Type 0} (k : ℕ) (xs : List (ℕ × A)) : Type 0 where
  pub at : at_key k xs ≡ None
  pub put : (a : A) → put_key k a xs ≡ xs ++ (k, a) ∷ []
