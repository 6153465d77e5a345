-- The lines of a document's cluster, in the words of the format.
use Rattle.std.specs.Prelude.{List, ◌∷◌, ◌++◌, ℕ, map}
use Rattle.placement.specs.Clusters.{ClusterData}
use Rattle.cluster_file.specs.Spelling.{nodes_words, partition_lines, init_words}

-- the number of nodes, the partitions, the initial values
abbrev pub cluster_lines : ClusterData → List (List (List ℕ))
cluster_lines c = nodes_words c.nodes ∷ (partition_lines 0 c.places ++ map init_words c.inits)
