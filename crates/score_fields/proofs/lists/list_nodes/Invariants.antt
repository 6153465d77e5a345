use Rattle.std.proofs.Common.{◌≡◌, take}
use Rattle.score_fields.proofs.lists.list_nodes.Given as goal

abbrev pub invariant-loop-node : goal.invariant-loop-node
invariant-loop-node l = l.list ≡ take l.node-index l.nodes
