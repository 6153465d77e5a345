use Rattle.std.proofs.Common.{◌≡◌, ◌++◌, drop, map}
use Rattle.history_print.specs.Acts.{spaced}
use Rattle.cluster_file.specs.Spelling.{node_word}
use Rattle.document_print.proofs.clusters.put_each_node.Given as goal

abbrev pub invariant-loop-node : goal.invariant-loop-node
invariant-loop-node l =
    l.out.items ++ spaced (map node_word (drop l.node-index l.nodes)) ≡ l.fn.out.items ++ spaced (map node_word l.nodes)
