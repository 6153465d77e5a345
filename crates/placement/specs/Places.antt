-- Which nodes hold a key.
use Rattle.std.specs.Prelude.{ℕ, ◌+◌, ◌*◌, ◌%◌, ◌^◌, ◌≤◌, Bool, true, ◌&&◌, ◌==◌, not, nat_le, fold, filter, IsTrue, List, [], ◌∷◌, length, if◌then◌else◌}
use Rattle.std.specs.List.{list_any, list_all, range_with_len, slice_index_or}
use Rattle.score_base.specs.declared.keys.Key.{Key}
use Rattle.score_base.specs.declared.ids.NodeId.{NodeId}
use Rattle.score_base.specs.declared.ids.Value.{Value}
use Rattle.score_base.specs.Keys.{same_key}

-- the node is among these
abbrev pub is_among : NodeId → List NodeId → Bool
is_among n ns = list_any (λ m. m == n) ns

-- no node stands twice
abbrev pub are_distinct : List NodeId → Bool
are_distinct [] = true
are_distinct (n ∷ ns) = not (is_among n ns) && are_distinct ns

-- at least one node, and none twice
abbrev pub is_partition : List NodeId → Bool
is_partition ns = nat_le 1 (length ns) && are_distinct ns

-- 1 to 64 partitions
pub record IsPlaces (places : List (List NodeId)) : Type 0 where
  pub least : 1 ≤ length places
  pub most : length places ≤ 64
  pub each : IsTrue (list_all is_partition places)

-- the sum over the bytes of a key that places it
abbrev pub key_sum : Key → ℕ
key_sum key = fold (λ h b. (31 * h + b) % 2 ^ 32) 0 key

-- the nodes that hold a key, in the order of its partition
abbrev pub holders : List (List NodeId) → Key → List NodeId
holders places key = slice_index_or places (key_sum key % length places) []

-- the node holds the key
abbrev pub holds : List (List NodeId) → NodeId → Key → Bool
holds places n key = is_among n (holders places key)

-- those of the nodes 1 to 16 that pass a test, rising
abbrev pub rising_nodes : (NodeId → Bool) → List NodeId
rising_nodes p = filter p (range_with_len 1 16)

-- all nodes that hold one of the keys, rising
abbrev pub parts : List (List NodeId) → List Key → List NodeId
parts places keys = rising_nodes (λ n. list_any (holds places n) keys)

-- the nodes of a list but for n
abbrev pub others : NodeId → List NodeId → List NodeId
others n ns = filter (λ m. not (m == n)) ns

-- the holders of a key in the order that a home prefers: the home first where it holds the key, then
-- the others in the order of the partition
abbrev pub preferred : List (List NodeId) → NodeId → Key → List NodeId
preferred places home key =
    if holds places home key then home ∷ others home (holders places key) else holders places key

-- the value that a list gives a key, or 0
abbrev pub init_of : List (Key × Value) → Key → Value
init_of [] k = 0
init_of (x ∷ xs) k = if same_key x.0 k then x.1 else init_of xs k
