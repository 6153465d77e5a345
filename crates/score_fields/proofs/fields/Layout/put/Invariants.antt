use Rattle.std.proofs.Common.{◌≡◌, ◌++◌, ◌+◌, ◌≤◌, map, drop, length, vec_capacity}
use Rattle.score_fields.specs.Fields.{meaning, fields_bytes, layout_bytes}
use Rattle.score_fields.proofs.fields.Layout.put.Given as goal

abbrev pub invariant-loop-i : goal.invariant-loop-i
invariant-loop-i g l = record {
  spelled : l.out.items ++ fields_bytes (drop l.i l.self.fields) (drop l.i (map (meaning l.source) l.values)) ≡
      l.fn.out.items ++ layout_bytes l.self.tag l.self.fields (map (meaning l.source) l.values);
  room : length l.fn.out.items + length (layout_bytes l.self.tag l.self.fields (map (meaning l.source) l.values)) ≤
      vec_capacity l.out;
  capacity : vec_capacity l.fn.out ≤ vec_capacity l.out;
}
