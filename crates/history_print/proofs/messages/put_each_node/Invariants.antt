use Rattle.std.proofs.Common.{◌≡◌, ◌++◌, drop, map}
use Rattle.history_print.specs.Acts.{spaced, node_word}
use Rattle.history_print.proofs.messages.put_each_node.Given as goal

abbrev pub invariant-loop-node : goal.invariant-loop-node
invariant-loop-node l =
    l.out.items ++ spaced (map node_word (drop l.node-index l.nodes)) ≡ l.fn.out.items ++ spaced (map node_word l.nodes)
