use Rattle.std.proofs.Common.{◌≡◌, ◌+◌, map, drop, length}
use Rattle.score_fields.specs.Fields.{meaning, fields_bytes, layout_bytes}
use Rattle.score_fields.proofs.fields.Layout.len.Given as goal

abbrev pub invariant-loop-i : goal.invariant-loop-i
invariant-loop-i g l =
    l.len + length (fields_bytes (drop l.i l.self.fields) (drop l.i (map (meaning l.source) l.values)))
    ≡ length (layout_bytes l.self.tag l.self.fields (map (meaning l.source) l.values))
