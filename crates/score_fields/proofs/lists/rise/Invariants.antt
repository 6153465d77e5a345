use Rattle.std.proofs.Common.{◌≡◌, drop}
use Rattle.score_fields.specs.Reading.{rises_above}
use Rattle.score_fields.proofs.lists.rise.Given as goal

abbrev pub invariant-loop-node : goal.invariant-loop-node
invariant-loop-node l = rises_above l.last (drop l.node-index l.nodes) ≡ rises_above 0 l.nodes
