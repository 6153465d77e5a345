-- Which pairs of a transaction and an identifier are in a list, and what are they all above?
use Rattle.std.proofs.Common.{◌≤◌, ◌<◌, ◌≡◌, ◌≢◌, inl, inr, Bool, true, false, ◌&&◌, ◌||◌, List, [], ◌∷◌, refl, arith}
use Rattle.std.proofs.lemmas.Bool.{cases_Bool, cases_eq, or_cases}
use Rattle.std.proofs.lemmas.Bool.Decides.{nat_tests}
use Rattle.std.specs.Prelude.{◌==◌, nat_lt}
use Rattle.score_base.specs.declared.ids.TxId.{TxId}
use Rattle.score_base.specs.declared.ids.Ident.{Ident}
use Rattle.journal_words.specs.Journals.{without, all_above, later}

-- ---- lists of pairs

-- the pair is in the list
abbrev pub has_pair : TxId → Ident → List (TxId × Ident) → Bool
has_pair t p [] = false
has_pair t p (x ∷ xs) = (x.0 == t && x.1 == p) || has_pair t p xs

pub pair-here : (t : TxId) (p : Ident) (xs : List (TxId × Ident)) → has_pair t p ((t, p) ∷ xs) ≡ true
pair-here t p xs = grind (arith, nat_tests)

pub pair-kept : (t v : TxId) (p : Ident) (xs : List (TxId × Ident)) → t ≢ v → has_pair t p xs ≡ true
    → has_pair t p (without v xs) ≡ true
pair-kept t v p [] ne h = h
pair-kept t v p (x ∷ xs) ne h = grind (arith, nat_tests, pair-kept t v p xs ne)

pub pair-taken : (t v : TxId) (p : Ident) (xs : List (TxId × Ident)) → has_pair t p (without v xs) ≡ true
    → (t ≢ v) × (has_pair t p xs ≡ true)
pair-taken t v p [] h = absurd (grind (arith, h))
pair-taken t v p (x ∷ xs) h = elim (cases_eq x.0 v) [
  | inl same ↦
      let gone : without v (x ∷ xs) ≡ without v xs = grind (arith, nat_tests) in
      let h' : has_pair t p (without v xs) ≡ true = rw gone at h in
      let more = pair-taken t v p xs h' in
      (more.0, grind (arith, more.1))
  | inr other ↦
      let stays : without v (x ∷ xs) ≡ x ∷ without v xs = grind (arith, nat_tests) in
      let h' : has_pair t p (x ∷ without v xs) ≡ true = rw stays at h in
      elim (or_cases (x.0 == t && x.1 == p) (has_pair t p (without v xs)) h') [
        | inl here ↦ (grind (arith, nat_tests, here, other), grind (arith, here))
        | inr later ↦ let more = pair-taken t v p xs later in (more.0, grind (arith, more.1))
      ]
]

-- ---- above all of these

pub all-above : (s p : Ident) (t : TxId) (xs : List (TxId × Ident)) → all_above s xs ≡ true → has_pair t p xs ≡ true
    → s < p
all-above s p t [] h e = absurd (grind (arith, e))
all-above s p t (x ∷ xs) h e = grind (arith, nat_tests, all-above s p t xs)

pub above-below : (s f : Ident) (xs : List (TxId × Ident)) → f ≤ s → all_above s xs ≡ true → all_above f xs ≡ true
above-below s f [] le h = refl
above-below s f (x ∷ xs) le h = grind (arith, nat_tests, above-below s f xs le)

pub above-without : (s : Ident) (t : TxId) (xs : List (TxId × Ident)) → all_above s xs ≡ true
    → all_above s (without t xs) ≡ true
above-without s t [] h = refl
above-without s t (x ∷ xs) h = grind (arith, nat_tests, above-without s t xs)

-- a pair that is not above s
pub not-above : (s : Ident) (xs : List (TxId × Ident)) → all_above s xs ≡ false
    → (t : TxId) × (p : Ident) × (has_pair t p xs ≡ true) × (p ≤ s)
not-above s [] h = absurd (grind (arith, h))
not-above s (x ∷ xs) h = elim (cases_Bool (nat_lt s x.1)) [
  | inl above ↦
      let more = not-above s xs (grind (arith, h, above)) in
      (more.0, more.1, grind (arith, more.2), more.3)
  | inr not_above ↦ (x.0, x.1, grind (arith, nat_tests), grind (arith, nat_tests, not_above))
]
