-- The one spelling of a document: lines of words, with single spaces between the words and a line feed
-- at each line's end.
use Rattle.std.specs.Prelude.{ℕ, ◌+◌, ◌^◌, Bool, ◌&&◌, nat_le, nat_lt, map, IsTrue, List, [], ◌∷◌, ◌++◌, length, codes}
use Rattle.std.specs.List.{list_all, flat_map, join_with_byte}
use Rattle.std.specs.Fmt.{decimal}
use Rattle.score_base.specs.declared.keys.Key.{Key}
use Rattle.score_base.specs.declared.ids.NodeId.{NodeId}
use Rattle.score_base.specs.declared.ids.TxId.{TxId}
use Rattle.score_base.specs.declared.ids.Value.{Value}
use Rattle.score_base.specs.Keys.{is_key}
use Rattle.script_lang.specs.Scripts.{ScriptData, are_sound}
use Rattle.script_lang.specs.Spelling.{script_words, is_plain_op}
use Rattle.grid_model.specs.Documents.{DocumentData}
use Rattle.grid_model.specs.declared.items.Item.{Item}
use Rattle.grid_model.specs.declared.items.Item.TheVariants as item
use Rattle.script_lang.specs.declared.limits.TheConstants.{MAX_NODES, MAX_OPS, MAX_SESSION, MAX_TX}
use Rattle.cluster_file.specs.declared.limits.TheConstants.{MAX_COUNT}

-- The words of each line.

-- a node: an 'n' and its number
abbrev pub node_word : NodeId → List ℕ
node_word n = codes "n" ++ decimal n

abbrev pub nodes_words : ℕ → List (List ℕ)
nodes_words n = codes "nodes" ∷ decimal n ∷ []

-- the partition of this number, and its nodes
abbrev pub partition_words : ℕ → List NodeId → List (List ℕ)
partition_words i ns = codes "partition" ∷ decimal i ∷ map node_word ns

abbrev pub init_words : Key × Value → List (List ℕ)
init_words x = codes "init" ∷ x.0 ∷ decimal x.1 ∷ []

abbrev pub item_words : Item → List (List ℕ)
item_words (item.Begin t) = codes "begin" ∷ decimal t ∷ []
item_words (item.Deliver m) = codes "deliver" ∷ decimal m ∷ []
item_words (item.Drop m) = codes "drop" ∷ decimal m ∷ []
item_words (item.Next c) = codes "next" ∷ decimal c ∷ []
item_words (item.Retry t) = codes "retry" ∷ decimal t ∷ []
item_words (item.Ask n t) = codes "ask" ∷ node_word n ∷ decimal t ∷ []
item_words (item.AskPeer n t m) = codes "ask" ∷ node_word n ∷ decimal t ∷ node_word m ∷ []
item_words (item.Crash n how) = codes "crash" ∷ node_word n ∷ decimal how ∷ []
item_words (item.Fuse n k how) = codes "fuse" ∷ node_word n ∷ decimal k ∷ decimal how ∷ []
item_words (item.Restart n) = codes "restart" ∷ node_word n ∷ []
item_words (item.Compact n) = codes "compact" ∷ node_word n ∷ []

-- The lines of a document, each as its words.

-- the partitions, the first of them with this number
abbrev pub partition_lines : ℕ → List (List NodeId) → List (List (List ℕ))
partition_lines i [] = []
partition_lines i (ns ∷ rest) = partition_words i ns ∷ partition_lines (i + 1) rest

-- the cluster, the scripts, the schedule
abbrev pub document_lines : DocumentData → List (List (List ℕ))
document_lines d =
    nodes_words d.cluster.nodes ∷ (partition_lines 0 d.cluster.places ++ (map init_words d.cluster.inits
    ++ (flat_map script_words d.scripts ++ ((codes "schedule" ∷ []) ∷ map item_words d.items))))

-- a line: its words with single spaces between them, and a line feed
abbrev pub line : List (List ℕ) → List ℕ
line words = join_with_byte 32 words ++ 10 ∷ []

-- the bytes of a document
abbrev pub spelling : DocumentData → List ℕ
spelling d = flat_map line (document_lines d)

-- The ranges that the types of a document's parts have in the code.

abbrev pub is_node : NodeId → Bool
is_node n = nat_le 1 n && nat_le n MAX_NODES

abbrev pub is_tx : TxId → Bool
is_tx t = nat_le 1 t && nat_le t MAX_TX

abbrev pub is_init_in_range : Key × Value → Bool
is_init_in_range x = is_key x.0 && nat_lt x.1 (2 ^ 64)

-- a script of a session from 1 to 65,535 or of none, and of 1 to 32 operations, whose expressions have
-- at most 16 steps and name only keys that were read before
abbrev pub is_script_in_range : ScriptData → Bool
is_script_in_range s =
    is_tx s.number && is_node s.home && nat_le s.session MAX_SESSION
    && nat_le 1 (length s.ops) && nat_le (length s.ops) MAX_OPS && list_all is_plain_op s.ops && are_sound [] s.ops

abbrev pub is_item_in_range : Item → Bool
is_item_in_range (item.Begin t) = is_tx t
is_item_in_range (item.Deliver m) = nat_le m MAX_COUNT
is_item_in_range (item.Drop m) = nat_le m MAX_COUNT
is_item_in_range (item.Next c) = nat_le c MAX_COUNT
is_item_in_range (item.Retry t) = is_tx t
is_item_in_range (item.Ask n t) = is_node n && is_tx t
is_item_in_range (item.AskPeer n t m) = is_node n && is_tx t && is_node m
is_item_in_range (item.Crash n how) = is_node n && nat_lt how (2 ^ 64)
is_item_in_range (item.Fuse n k how) = is_node n && nat_lt k (2 ^ 64) && nat_lt how (2 ^ 64)
is_item_in_range (item.Restart n) = is_node n
is_item_in_range (item.Compact n) = is_node n

-- each key is one, each number is in the range of its type, and each script is a whole one
pub record IsInRange (d : DocumentData) : Type 0 where
  pub places : IsTrue (list_all (list_all is_node) d.cluster.places)
  pub inits : IsTrue (list_all is_init_in_range d.cluster.inits)
  pub scripts : IsTrue (list_all is_script_in_range d.scripts)
  pub items : IsTrue (list_all is_item_in_range d.items)

-- the nodes that an item names
abbrev pub nodes_of_item : Item → List NodeId
nodes_of_item (item.Begin t) = []
nodes_of_item (item.Deliver m) = []
nodes_of_item (item.Drop m) = []
nodes_of_item (item.Next c) = []
nodes_of_item (item.Retry t) = []
nodes_of_item (item.Ask n t) = n ∷ []
nodes_of_item (item.AskPeer n t m) = n ∷ m ∷ []
nodes_of_item (item.Crash n how) = n ∷ []
nodes_of_item (item.Fuse n k how) = n ∷ []
nodes_of_item (item.Restart n) = n ∷ []
nodes_of_item (item.Compact n) = n ∷ []

-- the nodes that these items name are numbered from 1
abbrev pub are_items_numbered : List Item → Bool
are_items_numbered items = list_all (λ i. list_all (λ n. nat_le 1 n) (nodes_of_item i)) items
