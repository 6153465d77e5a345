-- Which places a write covers, and what stands at the others.
use Rattle.std.proofs.Common.{◌≡◌, ◌⊎◌, ℕ, ◌+◌, ◌<◌, ◌≤◌, ◌||◌, Bool, true, false, max, List, length, take, refl, arith, inl, inr, get_or}
use Rattle.std.proofs.lemmas.Bool.{cases_lt}
use Rattle.std.proofs.lemmas.Grind.{common_steps, elements}
use Rattle.score_disk.specs.Files.{put_at, covers}

pub neither : (a b : Bool) → (a || b) ≡ false → (a ≡ false) × (b ≡ false)
neither true b e = (e, cc)
neither false b e = (refl, e)

pub both : (a b : Bool) → a ≡ false → b ≡ false → (a || b) ≡ false
both true b p q = p
both false b p q = q

pub outside : (at n i : ℕ) → covers at n i ≡ false → (i < at) ⊎ (at + n ≤ i)
outside at n i e = elim (cases_lt i at) [ inl below ↦ inl below | inr above ↦ inr (grind (arith, common_steps)) ]

pub uncovered : (at n i : ℕ) → (i < at) ⊎ (at + n ≤ i) → covers at n i ≡ false
uncovered at n i (inl h) = grind (arith, common_steps)
uncovered at n i (inr h) = grind (arith, common_steps)

pub length-put_at : (xs : List ℕ) (at : ℕ) (bytes : List ℕ) → at ≤ length xs
    → length (put_at xs at bytes) ≡ max (length xs) (at + length bytes)
length-put_at xs at bytes h = grind (arith, elements)

pub get_or-put_at : (xs : List ℕ) (at : ℕ) (bytes : List ℕ) (i : ℕ) → at ≤ length xs
    → (i < at) ⊎ (at + length bytes ≤ i) → get_or (put_at xs at bytes) i 0 ≡ get_or xs i 0
get_or-put_at xs at bytes i h (inl e) = grind (arith, elements)
get_or-put_at xs at bytes i h (inr e) = grind (arith, elements)

pub take-put_at : (xs : List ℕ) (at k : ℕ) (bytes : List ℕ) → at ≤ length xs → k ≤ at
    → take k (put_at xs at bytes) ≡ take k xs
take-put_at xs at k bytes h low = grind (arith, common_steps)
