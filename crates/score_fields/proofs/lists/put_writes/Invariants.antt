use Rattle.std.proofs.Common.{◌≡◌, ◌++◌, ◌≤◌, ◌+◌, take, drop, length, vec_capacity}
use Rattle.std.specs.List.{flat_map, AllByRecursion}
use Rattle.score_fields.specs.Spelling.{IsWrite, write_bytes, writes_bytes}
use Rattle.score_fields.proofs.lists.put_writes.Given as goal

abbrev pub invariant-loop-write : goal.invariant-loop-write
invariant-loop-write l = record {
  spelled : l.out.items ++ flat_map write_bytes (drop l.write-index l.writes) ≡ l.fn.out.items ++ writes_bytes l.writes;
  room : length l.fn.out.items + length (writes_bytes l.writes) ≤ vec_capacity l.out;
  each : AllByRecursion IsWrite (take l.write-index l.writes);
  capacity : vec_capacity l.fn.out ≤ vec_capacity l.out;
}
