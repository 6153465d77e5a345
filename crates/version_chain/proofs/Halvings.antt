-- How many steps three reads of a long chain take.
use Rattle.std.proofs.Common.{ℕ, ◌+◌, ◌*◌, ◌^◌, ◌≤◌, ◌<◌, inl, inr, lit<, arith}
use Rattle.std.proofs.Math.Nat.{pow-le-pow_right}
use Rattle.std.proofs.lemmas.Bool.{cases_lt}

-- a look-up among at most 50,000 takes at most 16 steps
pub at_most_16 : (t n : ℕ) → 2 ^ t ≤ 2 * n + 1 → n ≤ 50000 → t ≤ 16
at_most_16 t n cost few = elim (cases_lt 16 t) [
  | inl more ↦ let large : 2 ^ 17 ≤ 2 ^ t = pow-le-pow_right (lit< tt) more in absurd (omega (arith, large, cost, few))
  | inr less ↦ less
]

-- one among fewer than 2 ^ 64 takes at most 64
pub at_most_64 : (t n : ℕ) → 2 ^ t ≤ 2 * n + 1 → n < 2 ^ 64 → t ≤ 64
at_most_64 t n cost few = elim (cases_lt 64 t) [
  | inl more ↦ let large : 2 ^ 65 ≤ 2 ^ t = pow-le-pow_right (lit< tt) more in absurd (omega (arith, large, cost, few))
  | inr less ↦ less
]
