use Rattle.std.proofs.Common.{◌≡◌, ◌++◌, drop}
use Rattle.placement.specs.Places.{others}
use Rattle.presumed_abort.proofs.counts.others.Given as goal

abbrev pub invariant-loop-node : goal.invariant-loop-node
invariant-loop-node l = l.rest ++ others l.but (drop l.node-index l.nodes) ≡ others l.but l.nodes
