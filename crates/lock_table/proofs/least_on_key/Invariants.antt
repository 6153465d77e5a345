use Rattle.std.proofs.Common.{ℕ, List, Bool, ◌≡◌, ◌≢◌, ◌≤◌, ◌<◌, length, drop}
use Rattle.std.specs.List.{slice_index_or}
use Rattle.std.specs.Cmp.Lexicographic.{slice_cmp}
use Rattle.std.specs.declared.cmp.Ordering.TheVariants.{Less}
use Rattle.std.specs.Ordering.{nat_cmp}
use Rattle.lock_table.specs.Table.{locks_of, blocks_in}
use Rattle.lock_table.proofs.least_on_key.Given as goal

abbrev pub invariant-loop-i : goal.invariant-loop-i
invariant-loop-i l = record {
  above : (j : ℕ) (d : (List ℕ × ℕ) × Bool) → l.i ≤ j → j < length l.locks.pairs
      → slice_cmp nat_cmp (slice_index_or l.locks.pairs j d).0.0 l.key ≢ Less;
  left : (u : ℕ) → u ≢ l.t → blocks_in l.writes (locks_of (drop l.i l.locks.pairs)) u l.key
      ≡ blocks_in l.writes (locks_of l.locks.pairs) u l.key;
}
