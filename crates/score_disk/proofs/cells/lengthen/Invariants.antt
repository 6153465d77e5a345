use Rattle.std.proofs.Common.{◌≡◌, ◌≤◌, ◌<◌, ◌+◌, ℕ, vec_len, vec_capacity}
use Rattle.std.specs.Prelude.{slice_index}
use Rattle.score_disk.proofs.cells.lengthen.Given as goal

abbrev pub invariant-loop : goal.invariant-loop
invariant-loop l = record {
  long : vec_len l.bytes ≡ vec_len l.fn.bytes + l.counter;
  same : (i : ℕ) → i < vec_len l.fn.bytes → slice_index l.bytes.items i ≡ slice_index l.fn.bytes.items i;
  room : vec_capacity l.fn.bytes ≤ vec_capacity l.bytes;
}
