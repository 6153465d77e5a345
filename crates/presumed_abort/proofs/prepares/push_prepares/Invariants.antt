use Rattle.std.proofs.Common.{◌≡◌, ◌++◌, drop}
use Rattle.grid_model.specs.Advances.{prepares}
use Rattle.presumed_abort.proofs.prepares.push_prepares.Given as goal

abbrev pub invariant-loop-node : goal.invariant-loop-node
invariant-loop-node l =
    l.outs.items ++ prepares l.cluster l.tx (drop l.node-index l.nodes)
    ≡ l.fn.outs.items ++ prepares l.cluster l.tx l.nodes
