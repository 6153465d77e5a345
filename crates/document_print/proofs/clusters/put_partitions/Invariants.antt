use Rattle.std.proofs.Common.{◌≡◌, ◌++◌, drop}
use Rattle.std.specs.List.{flat_map}
use Rattle.history_print.specs.Acts.{line}
use Rattle.cluster_file.specs.Spelling.{partition_lines}
use Rattle.document_print.proofs.clusters.put_partitions.Given as goal

abbrev pub invariant-loop-nodes : goal.invariant-loop-nodes
invariant-loop-nodes l = record {
  counted : l.i ≡ l.nodes-index;
  told : l.out.items ++ flat_map line (partition_lines l.i (drop l.nodes-index l.partitions))
      ≡ l.fn.out.items ++ flat_map line (partition_lines 0 l.partitions);
}
