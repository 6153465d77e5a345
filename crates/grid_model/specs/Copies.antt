-- The serial copy: the committed transactions run alone, one behind the other, in the order of their
-- final identifiers.
use Rattle.std.specs.Prelude.{◌≡◌, ◌≤◌, ℕ, Bool, false, ◌||◌, ◌==◌, fold, IsTrue, List, [], ◌∷◌, ◌++◌, Option, Some, None, if◌then◌else◌}
use Rattle.std.specs.List.{flat_map, range_with_len}
use Rattle.score_base.specs.declared.ids.TxId.{TxId}
use Rattle.score_base.specs.declared.ids.NodeId.{NodeId}
use Rattle.score_base.specs.declared.ids.Ident.{Ident}
use Rattle.score_base.specs.declared.ids.Value.{Value}
use Rattle.score_base.specs.declared.keys.Key.{Key}
use Rattle.script_lang.specs.Scripts.{ScriptData}
use Rattle.script_lang.specs.Reads.{is_update}
use Rattle.placement.specs.Places.{holds}
use Rattle.placement.specs.Clusters.{init}
use Rattle.grid_model.specs.declared.acts.Act.{Act}
use Rattle.grid_model.specs.declared.acts.Act.TheVariants as act
use Rattle.grid_model.specs.declared.stories.Story.{Story}
use Rattle.grid_model.specs.Documents.{DocumentData}
use Rattle.grid_model.specs.Histories.{after}
use Rattle.journal_words.specs.Journals.{commit_id, version_at}
use Rattle.grid_model.specs.Nodes.{journal, script_of}
use Rattle.script_runs.specs.Walks.{op_at, op_key}
use Rattle.grid_model.specs.Acts.{EachAct}
use Rattle.script_runs.specs.Serials.{Map, reads_on, map_behind}
use Rattle.grid_model.specs.Stories.{story, first_sid}
use Rattle.journal_words.specs.Orders.{decisions, insert_last, members_to}

-- ---- the order

-- the decisions that stand at the nodes
abbrev pub all_decisions : DocumentData → List Act → List (Ident × TxId)
all_decisions d past = flat_map (λ n. decisions (journal d past n)) (range_with_len 1 d.cluster.nodes)

-- the decisions that stand, by final identifier and then by number, the last one first
abbrev pub order : DocumentData → List Act → List (Ident × TxId)
order d past = fold insert_last [] (all_decisions d past)

-- ---- the copy

-- the map behind a script, where there is one
abbrev pub script_map : Option ScriptData → Map → Map
script_map None m = m
script_map (Some s) m = map_behind m s.ops

-- the map behind these members, run from the last of the list to the first on the initial values
abbrev pub copy_of : DocumentData → List (Ident × TxId) → Map
copy_of d [] = init d.cluster
copy_of d (x ∷ xs) = script_map (script_of x.1 d.scripts) (copy_of d xs)

-- the serial copy at s: the map behind all committed transactions with a final identifier of at most s
abbrev pub copy : DocumentData → List Act → Ident → Map
copy d past s = copy_of d (members_to s (order d past))

-- ---- what a transaction was shown

-- the reads of t in the order of time, remote and own, with their values
abbrev pub shown : List Act → TxId → List (ℕ × Value)
shown [] t = []
shown (act.Taken u j sid v ∷ past) t = if u == t then shown past t ++ (j, v) ∷ [] else shown past t
shown (act.Own u j v ∷ past) t = if u == t then shown past t ++ (j, v) ∷ [] else shown past t
shown (a ∷ past) t = shown past t

-- the reads of a script on a map, where there is one
abbrev pub script_reads : Option ScriptData → Map → List (ℕ × Value)
script_reads None m = []
script_reads (Some s) m = reads_on m s.ops

-- t was shown each of its reads once, in order, with the values that it reads when run on this map
abbrev pub IsShown : DocumentData → List Act → TxId → Map → Type 0
IsShown d past t m = shown past t ≡ script_reads (script_of t d.scripts) m

-- the client of t was told
abbrev pub is_finished : List Act → TxId → Bool
is_finished [] t = false
is_finished (act.Finished u ∷ past) t = (u == t) || is_finished past t
is_finished (a ∷ past) t = is_finished past t

-- the snapshot identifier by a story
abbrev pub snapshot_in : Option Story → Ident
snapshot_in None = 0
snapshot_in (Some x) = first_sid x.progress.sid x.progress.sid0

-- the snapshot identifier of t: that of the first reply taken, or, where it reads nothing remotely, the
-- identifier at which it began
abbrev pub snapshot : DocumentData → List Act → TxId → Ident
snapshot d past t = snapshot_in (story d past t)

-- the key that operation j of a script names
abbrev pub key_at : Option ScriptData → ℕ → Option Key
key_at None j = None
key_at (Some s) j = op_key (op_at s.ops j)

-- ---- one copy

-- the value is that of the key in the copy; an operation without a key has none
abbrev pub ReadsCopy : DocumentData → List Act → Ident → Value → Option Key → Type 0
ReadsCopy d past sid v None = ⊥
ReadsCopy d past sid v (Some k) = v ≡ copy d past sid k

-- a reply that was taken has the value that its key has in the copy at its identifier
abbrev pub TakesCopy : DocumentData → List Act → Act → Type 0
TakesCopy d past (act.Taken t j sid v) = ReadsCopy d past sid v (key_at (script_of t d.scripts) j)
TakesCopy d past a = Unit {0}

-- One copy: each committed update was shown what it reads when it is run on the map that the members
-- before it leave; each finished read-only transaction what it reads on the copy at its snapshot; each
-- reply that was taken has the copy's value; and up to its commit identifier each node has the copy's
-- versions of the keys that it holds.
pub record OneCopyOf (d : DocumentData) (past : List Act) : Type 0 where
  pub updates : (later before : List (Ident × TxId)) (x : Ident × TxId) → order d past ≡ later ++ x ∷ before
      → IsShown d past x.1 (copy_of d before)
  pub readers : (s : ScriptData) (t : TxId) → script_of t d.scripts ≡ Some s → is_update s.ops ≡ false
      → IsTrue (is_finished past t) → IsShown d past t (copy d past (snapshot d past t))
  pub replies : EachAct (TakesCopy d past) past
  pub versions : (n : NodeId) (k : Key) (s : Ident) → IsTrue (holds d.cluster.places n k)
      → s ≤ commit_id (journal d past n)
      → (version_at (journal d past n) k (init d.cluster k) s).value ≡ copy d past s k

-- one copy, of acts in the order of time
abbrev pub OneCopy : DocumentData → List Act → Type 0
OneCopy d h = OneCopyOf d (after [] h)
