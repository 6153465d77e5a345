use Rattle.std.proofs.Common.{◌≡◌, ◌≤◌, ◌+◌, ◌*◌, take, length}
use Rattle.std.specs.List.{flat_map}
use Rattle.score_fields.specs.Spelling.{write_bytes}
use Rattle.score_fields.proofs.lists.writes_len.Given as goal

abbrev pub invariant-loop-write : goal.invariant-loop-write
invariant-loop-write l = record {
  long : l.len ≡ 1 + length (flat_map write_bytes (take l.write-index l.writes));
  small : l.len ≤ 1 + 41 * l.write-index;
}
