-- The multiple of a step that follows a number which is none.
use Rattle.std.proofs.Common.{ℕ, ◌+◌, ◌-◌, ◌*◌, ◌/◌, ◌%◌, ◌≤◌, ◌≢◌, inl, inr, arith}
use Rattle.std.proofs.Math.Nat.{mul-le-mul_left}
use Rattle.std.proofs.lemmas.Bool.{cases_lt}
use Rattle.node_clock.specs.Clock.{IsCeiling}

reached : (step n k : ℕ) → 1 ≤ step → n % step ≢ 0 → n ≤ step * k → n - n % step + step ≤ step * k
reached step n k some rest far = elim (cases_lt (n / step) k) [
  | inl more ↦ omega (arith, mul-le-mul_left {m = n / step + 1} {n = k} step (omega arith))
  | inr less ↦ absurd (omega (arith, mul-le-mul_left {m = k} {n = n / step} step less))
]

pub next_multiple : (step n : ℕ) → 1 ≤ step → n % step ≢ 0 → IsCeiling step n (n - n % step + step)
next_multiple step n some rest = record {
  multiple = (n / step + 1, omega arith);
  above = omega arith;
  least = λ m (k, is) far. let far' : n ≤ step * k = omega arith in let low = reached step n k some rest far' in omega arith;
}
