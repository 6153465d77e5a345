use Rattle.std.proofs.Common.{◌≡◌, drop}
use Rattle.std.specs.List.{list_any}
use Rattle.placement.specs.Places.{holds}
use Rattle.placement.proofs.clusters.Places.holds_any.Given as goal

abbrev pub invariant-loop-key : goal.invariant-loop-key
invariant-loop-key l = list_any (holds l.self l.node) (drop l.key-index l.keys) ≡ list_any (holds l.self l.node) l.keys
