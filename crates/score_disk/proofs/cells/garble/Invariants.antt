use Rattle.std.proofs.Common.{◌≡◌, ◌≤◌, ◌<◌, ℕ, vec_len, vec_capacity}
use Rattle.std.specs.Prelude.{slice_index, if◌then◌else◌}
use Rattle.score_disk.specs.Copies.{is_marked}
use Rattle.score_disk.proofs.cells.garble.Given as goal

abbrev pub invariant-loop-i : goal.invariant-loop-i
invariant-loop-i l = record {
  long : vec_len l.bytes ≡ vec_len l.fn.bytes;
  done : (j : ℕ) → j < l.i
      → slice_index l.bytes.items j ≡ (if is_marked l.marks j then l.byte else slice_index l.fn.bytes.items j);
  to_do : (j : ℕ) → l.i ≤ j → slice_index l.bytes.items j ≡ slice_index l.fn.bytes.items j;
  room : vec_capacity l.bytes ≡ vec_capacity l.fn.bytes;
}
