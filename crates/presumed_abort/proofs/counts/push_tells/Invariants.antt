use Rattle.std.proofs.Common.{◌≡◌, ◌++◌, drop}
use Rattle.grid_model.specs.Rows.{tells}
use Rattle.presumed_abort.proofs.counts.push_tells.Given as goal

abbrev pub invariant-loop-node : goal.invariant-loop-node
invariant-loop-node l =
    l.outs.items ++ tells l.t l.outcome (drop l.node-index l.nodes) ≡ l.fn.outs.items ++ tells l.t l.outcome l.nodes
