use Rattle.std.proofs.Common.{◌≡◌, drop}
use Rattle.grid_model.specs.Rows.{are_all_among}
use Rattle.presumed_abort.proofs.counts.are_all_among.Given as goal

abbrev pub invariant-loop-node : goal.invariant-loop-node
invariant-loop-node l = are_all_among (drop l.node-index l.nodes) l.among ≡ are_all_among l.nodes l.among
