-- Clusters, and what makes one well formed.
use Rattle.std.specs.Prelude.{ℕ, ◌≤◌, Bool, true, ◌&&◌, not, nat_le, IsTrue, List, [], ◌∷◌}
use Rattle.std.specs.List.{list_any, list_all}
use Rattle.score_base.specs.declared.keys.Key.{Key}
use Rattle.score_base.specs.declared.ids.NodeId.{NodeId}
use Rattle.score_base.specs.declared.ids.Value.{Value}
use Rattle.score_base.specs.Keys.{same_key}
use Rattle.placement.specs.Places.{IsPlaces, init_of}

-- a cluster: how many nodes it has, its partitions, its initial values
pub record ClusterData : Type 0 where
  pub nodes : ℕ
  pub places : List (List NodeId)
  pub inits : List (Key × Value)

-- no key stands twice
abbrev pub are_keys_distinct : List (Key × Value) → Bool
are_keys_distinct [] = true
are_keys_distinct (x ∷ xs) = not (list_any (λ y. same_key y.0 x.0) xs) && are_keys_distinct xs

-- 1 to 16 nodes, no partition names another node, and no key has two initial values
pub record IsCluster (c : ClusterData) : Type 0 where
  pub least : 1 ≤ c.nodes
  pub most : c.nodes ≤ 16
  pub places : IsPlaces c.places
  pub within : IsTrue (list_all (list_all (λ n. nat_le n c.nodes)) c.places)
  pub inits : IsTrue (are_keys_distinct c.inits)

-- the initial value of a key
abbrev pub init : ClusterData → Key → Value
init c k = init_of c.inits k
