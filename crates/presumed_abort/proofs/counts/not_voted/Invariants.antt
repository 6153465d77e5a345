use Rattle.std.proofs.Common.{◌≡◌, ◌++◌, drop}
use Rattle.grid_model.specs.Rows.{not_voted}
use Rattle.presumed_abort.proofs.counts.not_voted.Given as goal

abbrev pub invariant-loop-node : goal.invariant-loop-node
invariant-loop-node l = l.missing ++ not_voted (drop l.node-index l.nodes) l.votes ≡ not_voted l.nodes l.votes
