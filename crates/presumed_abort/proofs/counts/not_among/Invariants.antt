use Rattle.std.proofs.Common.{◌≡◌, ◌++◌, drop}
use Rattle.grid_model.specs.Rows.{not_among}
use Rattle.presumed_abort.proofs.counts.not_among.Given as goal

abbrev pub invariant-loop-node : goal.invariant-loop-node
invariant-loop-node l = l.missing ++ not_among (drop l.node-index l.nodes) l.among ≡ not_among l.nodes l.among
