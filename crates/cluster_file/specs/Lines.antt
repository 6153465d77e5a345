-- What each line of a document adds to what was read before it, or its first why.
use Rattle.std.specs.Prelude.{ℕ, ◌==◌, nat_le, Bool, List, [], ◌∷◌, ◌++◌, length, Option, Some, None, Result, Ok, Err, if◌then◌else◌, codes}
use Rattle.std.specs.List.{slice_split, list_any, list_all}
use Rattle.std.specs.BTreeSet.{BTreeSet}
use Rattle.score_base.specs.declared.keys.Key.{Key}
use Rattle.score_base.specs.declared.ids.NodeId.{NodeId}
use Rattle.script_lang.specs.Scripts.{ScriptData}
use Rattle.script_lang.specs.declared.script_lines.Stage.{Stage}
use Rattle.script_lang.specs.declared.script_lines.Stage.TheVariants as stage
use Rattle.script_lang.specs.Names.{has_name, with_number, name_key}
use Rattle.script_lang.specs.ScriptLines.{first_line, body_line}
use Rattle.cluster_file.specs.Items.{item_line}
use Rattle.cluster_file.specs.declared.drafts.Draft.{Draft}
use Rattle.cluster_file.specs.declared.drafts.Part.{Part}
use Rattle.cluster_file.specs.declared.drafts.Part.TheVariants as part
use Rattle.script_lang.specs.Reading.{◌>>=◌, is_word, word_at, end_at, number_at, in_range, steps}
use Rattle.script_lang.specs.Words.{node_of, key_of, is_printed}
use Rattle.script_lang.specs.declared.whys.Why.{Why}
use Rattle.script_lang.specs.declared.whys.Why.TheVariants as why
use Rattle.script_lang.specs.declared.limits.TheConstants.{MAX_NODES}
use Rattle.cluster_file.specs.declared.limits.TheConstants.{MAX_KEYS, MAX_PARTITIONS, MAX_SCRIPTS}

-- What was named before.

-- the keys named so far and this one, which was not named before
abbrev pub name_new_key : BTreeSet Key → Key → Result (BTreeSet Key) Why
name_new_key known k = if has_name known k then Err why.Repeat else name_key MAX_KEYS known k

-- The cluster: 'nodes N', then 1 to 64 lines 'partition i n..', then any number of lines 'init k v'.

unfoldable pub nodes_line : Draft → List (List ℕ) → Result Draft Why
nodes_line d ws = do
  n ← number_at ws
  count ← in_range 1 MAX_NODES n.0
  end ← end_at n.1
  Ok (record d { nodes = count; part = part.Nodes })

abbrev pub new_node : List NodeId → NodeId → Result (Unit {0}) Why
new_node ns n = if list_any (λ m. m == n) ns then Err why.Repeat else Ok tt

-- one node more, which is not there yet
unfoldable pub node_step : ℕ → List NodeId → List ℕ → Result (List NodeId) Why
node_step nodes ns w = do
  n ← node_of nodes w
  new ← new_node ns n
  Ok (ns ++ n ∷ [])

-- the number of the next partition, and some words behind it
abbrev pub is_next : ℕ → ℕ → List (List ℕ) → Result (Unit {0}) Why
is_next next i ws = if i == next then (if length ws == 0 then Err why.Missing else Ok tt) else Err why.Partition

unfoldable pub partition_line : Draft → List (List ℕ) → Result Draft Why
partition_line d ws = if nat_le MAX_PARTITIONS (length d.places) then Err why.Limit else (do
  i ← number_at ws
  next ← is_next (length d.places) i.0 i.1
  ns ← steps (node_step d.nodes) [] i.1
  Ok (record d { places = d.places ++ ns ∷ []; part = part.Partitions }))

unfoldable pub init_line : Draft → List (List ℕ) → Result Draft Why
init_line d ws = do
  w ← word_at ws
  k ← key_of w.0
  known ← name_new_key d.known k
  v ← number_at w.1
  end ← end_at v.1
  Ok (record d { inits = d.inits ++ (k, v.0) ∷ []; known = known; part = part.Inits })

-- Scripts: their lines are those of 'ScriptLines', over the keys named so far.

unfoldable pub tx_line : Draft → List (List ℕ) → Result Draft Why
tx_line d ws = if nat_le MAX_SCRIPTS (length d.scripts) then Err why.Limit else (do
  s ← first_line d.nodes d.numbers ws
  Ok (record d { script = Some s; numbers = with_number d.numbers s.number; part = part.Scripts }))

-- the script of which a line was read
abbrev pub with_stage : Draft → Stage → Draft
with_stage d (stage.Open s) = record d { script = Some s }
with_stage d (stage.Done s) = record d { scripts = d.scripts ++ s ∷ []; script = None }

-- a line inside a script
unfoldable pub script_line : Draft → ScriptData → List ℕ → List (List ℕ) → Result Draft Why
script_line d s w ws = do
  x ← body_line MAX_KEYS d.known s w ws
  Ok (with_stage (record d { known = x.1 }) x.0)

-- The schedule: 'schedule', then any number of items, whose lines are those of 'Items'.

unfoldable pub schedule_line : Draft → List (List ℕ) → Result Draft Why
schedule_line d ws = do
  end ← end_at ws
  Ok (record d { part = part.Items })

-- Which lines may stand where.

-- a line behind the initial values
abbrev pub later_line : Draft → List ℕ → List (List ℕ) → Result Draft Why
later_line d w ws =
    if is_word w (codes "tx") then tx_line d ws else
    (if is_word w (codes "schedule") then schedule_line d ws else Err why.Word)

-- a line behind the partitions
abbrev pub init_or_later : Draft → List ℕ → List (List ℕ) → Result Draft Why
init_or_later d w ws = if is_word w (codes "init") then init_line d ws else later_line d w ws

-- a line outside of scripts, by the part of the document that it stands in
abbrev pub part_line : Part → Draft → List ℕ → List (List ℕ) → Result Draft Why
part_line part.Start d w ws = if is_word w (codes "nodes") then nodes_line d ws else Err why.Word
part_line part.Nodes d w ws = if is_word w (codes "partition") then partition_line d ws else Err why.Word
part_line part.Partitions d w ws = if is_word w (codes "partition") then partition_line d ws else init_or_later d w ws
part_line part.Inits d w ws = init_or_later d w ws
part_line part.Scripts d w ws = later_line d w ws
part_line part.Items d w ws = item_line d w ws

-- a line, by the script that it stands in, if any
abbrev pub line_in : Option ScriptData → Draft → List ℕ → List (List ℕ) → Result Draft Why
line_in (Some s) d w ws = script_line d s w ws
line_in None d w ws = part_line d.part d w ws

abbrev pub words_line : Draft → List (List ℕ) → Result Draft Why
words_line d [] = Err why.Word
words_line d (w ∷ ws) = line_in d.script (record d { script = None }) w ws

-- a line of printed bytes, as words between single spaces
unfoldable pub line_of : Draft → List ℕ → Result Draft Why
line_of d line = if list_all is_printed line then words_line d (slice_split (λ b. b == 32) line) else Err why.Byte
