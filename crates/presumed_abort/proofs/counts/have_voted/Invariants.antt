use Rattle.std.proofs.Common.{◌≡◌, drop}
use Rattle.grid_model.specs.Rows.{have_voted}
use Rattle.presumed_abort.proofs.counts.have_voted.Given as goal

abbrev pub invariant-loop-node : goal.invariant-loop-node
invariant-loop-node l = have_voted (drop l.node-index l.nodes) l.votes ≡ have_voted l.nodes l.votes
