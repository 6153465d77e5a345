use Rattle.std.proofs.Common.{◌≡◌, ◌≤◌, ℕ, false, vec_len, vec_capacity}
use Rattle.score_disk.specs.Copies.{is_marked}
use Rattle.score_disk.proofs.cells.unmark.Given as goal

abbrev pub invariant-loop : goal.invariant-loop
invariant-loop l = record {
  none : (j : ℕ) → is_marked l.marks.items j ≡ false;
  long : vec_len l.marks ≡ l.counter;
  room : vec_capacity l.fn.marks ≤ vec_capacity l.marks;
}
