-- The parts of a transaction, as its record holds them.
use Rattle.std.specs.Prelude.{ℕ, ◌≤◌, List, length}
use Rattle.std.specs.List.Sorted.{IsStrictlyIncreasing}

-- 1 to 16 nodes, rising
pub record AreParts (ns : List ℕ) : Type 0 where
  pub some : 1 ≤ length ns
  pub most : length ns ≤ 16
  pub rising : IsStrictlyIncreasing ns
