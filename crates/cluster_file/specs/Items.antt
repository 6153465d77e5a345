-- What a line of the schedule adds to what was read before it, or its first why.
use Rattle.std.specs.Prelude.{ℕ, ◌+◌, nat_le, List, [], ◌∷◌, ◌++◌, Result, Ok, Err, if◌then◌else◌, codes}
use Rattle.std.specs.BTreeSet.{BTreeSet}
use Rattle.score_base.specs.declared.ids.NodeId.{NodeId}
use Rattle.score_base.specs.declared.ids.TxId.{TxId}
use Rattle.script_lang.specs.Names.{is_taken}
use Rattle.script_lang.specs.Reading.{◌>>=◌, is_word, word_at, end_at, number_at, in_range}
use Rattle.script_lang.specs.Words.{node_of, tx_of}
use Rattle.script_lang.specs.declared.whys.Why.{Why}
use Rattle.script_lang.specs.declared.whys.Why.TheVariants as why
use Rattle.grid_model.specs.declared.items.Item.{Item}
use Rattle.grid_model.specs.declared.items.Item.TheVariants as item
use Rattle.cluster_file.specs.declared.drafts.Draft.{Draft}
use Rattle.cluster_file.specs.declared.items.Kind.{Kind}
use Rattle.cluster_file.specs.declared.items.Kind.TheVariants as kind
use Rattle.cluster_file.specs.declared.limits.TheConstants.{MAX_CALL, MAX_COUNT, MAX_EVENTS}

-- What the words behind the first one name.

-- a script has the number
abbrev pub known_number : BTreeSet TxId → TxId → Result (Unit {0}) Why
known_number numbers t = if is_taken numbers t then Ok tt else Err why.Transaction

-- the number of a script
unfoldable pub script_of : BTreeSet TxId → List ℕ → Result TxId Why
script_of numbers w = do
  t ← tx_of w
  known ← known_number numbers t
  Ok t

-- a script, and no word behind it
unfoldable pub last_script : BTreeSet TxId → List (List ℕ) → Result TxId Why
last_script numbers ws = do
  w ← word_at ws
  t ← script_of numbers w.0
  end ← end_at w.1
  Ok t

-- a node, and no word behind it
unfoldable pub last_node : ℕ → List (List ℕ) → Result NodeId Why
last_node nodes ws = do
  w ← word_at ws
  n ← node_of nodes w.0
  end ← end_at w.1
  Ok n

-- a number from low to high, and no word behind it
unfoldable pub last_number : ℕ → ℕ → List (List ℕ) → Result ℕ Why
last_number low high ws = do
  n ← number_at ws
  m ← in_range low high n.0
  end ← end_at n.1
  Ok m

-- the item that asks the home of t, or the participant that one word more names
unfoldable pub asked : ℕ → NodeId → TxId → List (List ℕ) → Result Item Why
asked nodes n t [] = Ok (item.Ask n t)
asked nodes n t (w ∷ ws) = do
  m ← last_node nodes (w ∷ ws)
  Ok (item.AskPeer n t m)

unfoldable pub ask_item : ℕ → BTreeSet TxId → List (List ℕ) → Result Item Why
ask_item nodes numbers ws = do
  w ← word_at ws
  n ← node_of nodes w.0
  v ← word_at w.1
  t ← script_of numbers v.0
  asked nodes n t v.1

unfoldable pub crash_item : ℕ → List (List ℕ) → Result Item Why
crash_item nodes ws = do
  w ← word_at ws
  n ← node_of nodes w.0
  how ← last_number 0 MAX_COUNT w.1
  Ok (item.Crash n how)

unfoldable pub fuse_item : ℕ → List (List ℕ) → Result Item Why
fuse_item nodes ws = do
  w ← word_at ws
  n ← node_of nodes w.0
  c ← number_at w.1
  k ← in_range 1 MAX_CALL c.0
  how ← last_number 0 MAX_COUNT c.1
  Ok (item.Fuse n k how)

-- The items of one event.

-- the kind of item that begins with this word
abbrev pub kind_of : List ℕ → Result Kind Why
kind_of w =
    if is_word w (codes "begin") then Ok kind.Begin else
    (if is_word w (codes "deliver") then Ok kind.Deliver else
    (if is_word w (codes "drop") then Ok kind.Drop else
    (if is_word w (codes "retry") then Ok kind.Retry else
    (if is_word w (codes "ask") then Ok kind.Ask else
    (if is_word w (codes "crash") then Ok kind.Crash else
    (if is_word w (codes "fuse") then Ok kind.Fuse else
    (if is_word w (codes "restart") then Ok kind.Restart else
    (if is_word w (codes "compact") then Ok kind.Compact else Err why.Word))))))))

-- the item of a kind, by the words behind the first
unfoldable pub item_at : Kind → ℕ → BTreeSet TxId → List (List ℕ) → Result Item Why
item_at kind.Begin nodes numbers ws = last_script numbers ws >>= λ t. Ok (item.Begin t)
item_at kind.Deliver nodes numbers ws = last_number 1 MAX_COUNT ws >>= λ m. Ok (item.Deliver m)
item_at kind.Drop nodes numbers ws = last_number 1 MAX_COUNT ws >>= λ m. Ok (item.Drop m)
item_at kind.Retry nodes numbers ws = last_script numbers ws >>= λ t. Ok (item.Retry t)
item_at kind.Ask nodes numbers ws = ask_item nodes numbers ws
item_at kind.Crash nodes numbers ws = crash_item nodes ws
item_at kind.Fuse nodes numbers ws = fuse_item nodes ws
item_at kind.Restart nodes numbers ws = last_node nodes ws >>= λ n. Ok (item.Restart n)
item_at kind.Compact nodes numbers ws = last_node nodes ws >>= λ n. Ok (item.Compact n)

-- one item more, of so many events
abbrev pub with_item : Draft → Item → ℕ → Draft
with_item d i c = record d { items = d.items ++ i ∷ []; events = d.events + c }

-- an item of one event: the limit on events is checked at the line's first word
unfoldable pub event_line : Draft → Kind → List (List ℕ) → Result Draft Why
event_line d k ws = if nat_le MAX_EVENTS d.events then Err why.Limit else (do
  i ← item_at k d.nodes d.numbers ws
  Ok (with_item d i 1))

-- The item of many events.

-- so many more events, at most 50,000 in all
abbrev pub more_events : ℕ → ℕ → Result (Unit {0}) Why
more_events events c = if nat_le (events + c) MAX_EVENTS then Ok tt else Err why.Limit

-- the limit on events is checked at the number, since the item is so many events
unfoldable pub next_line : Draft → List (List ℕ) → Result Draft Why
next_line d ws = do
  n ← number_at ws
  c ← in_range 1 MAX_EVENTS n.0
  room ← more_events d.events c
  end ← end_at n.1
  Ok (with_item d (item.Next c) c)

-- a line of the schedule
unfoldable pub item_line : Draft → List ℕ → List (List ℕ) → Result Draft Why
item_line d w ws = if is_word w (codes "next") then next_line d ws else (do
  k ← kind_of w
  event_line d k ws)
