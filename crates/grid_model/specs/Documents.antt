-- Documents, and what makes one well formed.
use Rattle.std.specs.Prelude.{ℕ, ◌≤◌, Bool, true, ◌&&◌, ◌==◌, not, nat_le, fold, map, sum_by, IsTrue, List, [], ◌∷◌, ◌++◌, length}
use Rattle.std.specs.List.{list_any, list_all, flat_map}
use Rattle.std.specs.Ordering.{nat_cmp}
use Rattle.std.specs.Cmp.Lexicographic.{slice_cmp}
use Rattle.std.specs.BTreeSet.{insert_key}
use Rattle.score_base.specs.declared.keys.Key.{Key}
use Rattle.score_base.specs.declared.ids.TxId.{TxId}
use Rattle.score_base.specs.declared.ids.Value.{Value}
use Rattle.script_lang.specs.declared.scripts.Op.{Op}
use Rattle.script_lang.specs.Scripts.{ScriptData, are_sound}
use Rattle.script_lang.specs.Reads.{keys_named}
use Rattle.placement.specs.Clusters.{ClusterData, IsCluster}
use Rattle.grid_model.specs.declared.items.Item.{Item}
use Rattle.grid_model.specs.declared.items.Item.TheVariants as item

-- a document: its cluster, its scripts and its schedule
pub record DocumentData : Type 0 where
  pub cluster : ClusterData
  pub scripts : List ScriptData
  pub items : List Item

-- the numbers of the scripts, in the order of the document
abbrev pub script_numbers : List ScriptData → List TxId
script_numbers [] = []
script_numbers (s ∷ ss) = s.number ∷ script_numbers ss

-- no number stands twice
abbrev pub are_numbers_distinct : List TxId → Bool
are_numbers_distinct [] = true
are_numbers_distinct (t ∷ ts) = not (list_any (λ u. u == t) ts) && are_numbers_distinct ts

-- how many events an item is
abbrev pub events_of : Item → ℕ
events_of (item.Next c) = c
events_of (item.Begin t) = 1
events_of (item.Deliver m) = 1
events_of (item.Drop m) = 1
events_of (item.Retry t) = 1
events_of (item.Ask n t) = 1
events_of (item.AskPeer n t m) = 1
events_of (item.Crash n how) = 1
events_of (item.Fuse n k how) = 1
events_of (item.Restart n) = 1
events_of (item.Compact n) = 1

-- the keys that an initial value or an operation names, in the order of the document
abbrev pub keys_of_document : List (Key × Value) → List ScriptData → List Key
keys_of_document inits scripts = map (λ x. x.0) inits ++ flat_map (λ s. keys_named s.ops) scripts

-- the distinct ones of these keys, in byte order
abbrev pub key_order : List Key → List Key
key_order keys = fold (insert_key (slice_cmp nat_cmp)) [] keys

-- the distinct ones of these numbers, rising
abbrev pub number_order : List TxId → List TxId
number_order ts = fold (insert_key nat_cmp) [] ts

-- the ranges of an item: the transactions are those of the document, the nodes those of the cluster
abbrev pub is_item : ℕ → List TxId → Item → Bool
is_item nodes ts (item.Begin t) = list_any (λ u. u == t) ts
is_item nodes ts (item.Deliver m) = nat_le 1 m
is_item nodes ts (item.Drop m) = nat_le 1 m
is_item nodes ts (item.Next c) = nat_le 1 c && nat_le c 50000
is_item nodes ts (item.Retry t) = list_any (λ u. u == t) ts
is_item nodes ts (item.Ask n t) = nat_le n nodes && list_any (λ u. u == t) ts
is_item nodes ts (item.AskPeer n t m) = nat_le n nodes && (nat_le m nodes && list_any (λ u. u == t) ts)
is_item nodes ts (item.Crash n how) = nat_le n nodes && nat_le how 4294967295
is_item nodes ts (item.Fuse n k how) = nat_le n nodes && nat_le 1 k && nat_le k 1000 && nat_le how 4294967295
is_item nodes ts (item.Restart n) = nat_le n nodes
is_item nodes ts (item.Compact n) = nat_le n nodes

-- what a document is beyond the spelling of its lines
pub record IsDocument (d : DocumentData) : Type 0 where
  pub cluster : IsCluster d.cluster
  pub count : length d.scripts ≤ 4096
  pub numbers : IsTrue (are_numbers_distinct (script_numbers d.scripts))
  pub homes : IsTrue (list_all (λ s. nat_le s.home d.cluster.nodes) d.scripts)
  pub keys : length (key_order (keys_of_document d.cluster.inits d.scripts)) ≤ 4096
  pub items : IsTrue (list_all (is_item d.cluster.nodes (script_numbers d.scripts)) d.items)
  pub events : sum_by events_of d.items ≤ 50000

-- the operations of a whole script: 1 to 32, whose expressions name only keys that were read before
abbrev pub is_body : List Op → Bool
is_body ops = nat_le 1 (length ops) && (nat_le (length ops) 32 && are_sound [] ops)

-- the nodes of the partitions and the homes of the scripts are numbered from 1
abbrev pub are_numbered : DocumentData → Bool
are_numbered d = list_all (list_all (λ n. nat_le 1 n)) d.cluster.places && list_all (λ s. nat_le 1 s.home) d.scripts

-- the document is one: what its own type asks of it, and what those of its scripts and nodes ask
pub record IsOne (d : DocumentData) : Type 0 where
  pub document : IsDocument d
  pub bodies : IsTrue (list_all (λ s. is_body s.ops) d.scripts)
  pub nodes : IsTrue (are_numbered d)
