use Rattle.std.proofs.Common.{◌≡◌, ◌≤◌, ◌+◌, ◌*◌, take, length}
use Rattle.std.specs.List.{flat_map}
use Rattle.score_fields.specs.Spelling.{key_bytes}
use Rattle.score_fields.proofs.lists.keys_len.Given as goal

abbrev pub invariant-loop-key : goal.invariant-loop-key
invariant-loop-key l = record {
  long : l.len ≡ 1 + length (flat_map key_bytes (take l.key-index l.keys));
  small : l.len ≤ 1 + 33 * l.key-index;
}
