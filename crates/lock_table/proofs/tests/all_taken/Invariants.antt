use Rattle.std.proofs.Common.{ℕ, List, ◌+◌, ◌*◌, ◌≤◌, IsTrue}
use Rattle.lock_table.specs.Keys.{holds_lock}
use Rattle.lock_table.proofs.tests.all_taken.Given as goal

abbrev pub invariant-loop-i : goal.invariant-loop-i
invariant-loop-i l = record {
  room : 10000 ≤ l.locks.spare + 2 * l.i;
  holders : (u : ℕ) (k : List ℕ) → IsTrue (holds_lock l.locks u k) → u ≤ l.i;
}
