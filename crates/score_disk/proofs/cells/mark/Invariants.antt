use Rattle.std.proofs.Common.{◌≡◌, ◌≤◌, ◌-◌, ℕ, ◌||◌, max, vec_len, vec_capacity}
use Rattle.score_disk.specs.Files.{covers}
use Rattle.score_disk.specs.Copies.{is_marked}
use Rattle.score_disk.proofs.cells.mark.Given as goal

abbrev pub invariant-loop-i : goal.invariant-loop-i
invariant-loop-i l = record {
  marked : (j : ℕ) → is_marked l.marks.items j ≡ (is_marked l.fn.marks.items j || covers l.at (l.i - l.at) j);
  long : vec_len l.marks ≡ max (vec_len l.fn.marks) l.i;
  room : vec_capacity l.fn.marks ≤ vec_capacity l.marks;
}
