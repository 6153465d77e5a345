-- The keys and the cluster of most examples.
use Rattle.std.proofs.Common.{[], ◌∷◌}
use Rattle.score_base.specs.declared.keys.Key.{Key}
use Rattle.placement.specs.Clusters.{ClusterData}

abbrev pub a : Key
a = 97 ∷ []

abbrev pub b : Key
b = 98 ∷ []

abbrev pub c : Key
c = 99 ∷ []

-- two nodes; `a` and `c` are on n2, `a` with the value 10, and `b` on n1
abbrev pub two_nodes : ClusterData
two_nodes = record { nodes = 2; places = (1 ∷ []) ∷ ((2 ∷ []) ∷ []); inits = (a, 10) ∷ ((b, 0) ∷ []) }
