use Rattle.std.proofs.Common.{◌≡◌, ◌++◌, drop}
use Rattle.placement.specs.Places.{others}
use Rattle.placement.proofs.clusters.push_others.Given as goal

abbrev pub invariant-loop-node : goal.invariant-loop-node
invariant-loop-node l = l.nodes ++ others l.but (drop l.node-index l.list) ≡ l.initial.nodes ++ others l.but l.list
