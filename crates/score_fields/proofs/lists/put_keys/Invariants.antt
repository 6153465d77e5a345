use Rattle.std.proofs.Common.{◌≡◌, ◌++◌, ◌≤◌, ◌+◌, take, drop, length, vec_capacity}
use Rattle.std.specs.List.{flat_map, AllByRecursion}
use Rattle.score_fields.specs.Spelling.{IsKey, key_bytes, keys_bytes}
use Rattle.score_fields.proofs.lists.put_keys.Given as goal

abbrev pub invariant-loop-key : goal.invariant-loop-key
invariant-loop-key l = record {
  spelled : l.out.items ++ flat_map key_bytes (drop l.key-index l.keys) ≡ l.fn.out.items ++ keys_bytes l.keys;
  room : length l.fn.out.items + length (keys_bytes l.keys) ≤ vec_capacity l.out;
  each : AllByRecursion IsKey (take l.key-index l.keys);
  capacity : vec_capacity l.fn.out ≤ vec_capacity l.out;
}
