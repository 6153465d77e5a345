-- The two numbers of a node's clock, and ceilings.
use Rattle.std.specs.Prelude.{◌≡◌, ℕ, ◌*◌, ◌≤◌}

-- the floor, and the greatest identifier that was learnt or raised to
pub record Clock : Type 0 where
  pub floor : ℕ
  pub next : ℕ

-- m is a multiple of step
abbrev pub IsMultiple : ℕ → ℕ → Type 0
IsMultiple step m = (k : ℕ) × (m ≡ step * k)

-- c is the least multiple of step that is at least sid
pub record IsCeiling (step sid c : ℕ) : Type 0 where
  pub multiple : IsMultiple step c
  pub above : sid ≤ c
  pub least : (m : ℕ) → IsMultiple step m → sid ≤ m → c ≤ m
