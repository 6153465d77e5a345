-- What a node knows: its view.
use Rattle.std.specs.Prelude.{ℕ, Bool, true, false, ◌&&◌, ◌==◌, List, [], Option, Some, None, is_some, if◌then◌else◌}
use Rattle.score_base.specs.declared.ids.TxId.{TxId}
use Rattle.score_base.specs.declared.ids.NodeId.{NodeId}
use Rattle.score_base.specs.declared.ids.Ident.{Ident}
use Rattle.score_base.specs.declared.records.Record.{Record}
use Rattle.script_lang.specs.Scripts.{ScriptData}
use Rattle.placement.specs.Clusters.{ClusterData}
use Rattle.grid_model.specs.declared.acts.Act.{Act}
use Rattle.grid_model.specs.declared.stories.Story.{Story}
use Rattle.grid_model.specs.declared.stories.Progress.{Progress}
use Rattle.grid_model.specs.declared.stories.HeldRead.{HeldRead}
use Rattle.grid_model.specs.Documents.{DocumentData}
use Rattle.journal_words.specs.Journals.{Decision, undone}
use Rattle.journal_words.specs.Participants.{Participant}
use Rattle.grid_model.specs.Nodes.{Node, node, script_of}
use Rattle.grid_model.specs.Stories.{Phase, Unbegun, Decided, Reading, Collecting, phase_at, is_open, story}
use Rattle.script_runs.specs.Waits.{waiting}

-- what a home knows of a transaction that is reading or collecting
pub record Open : Type 0 where
  pub script : ScriptData
  pub progress : Progress

-- what a node knows: the cluster; the records of its journal, the newest first; its clock; the held
-- reads in the order of their arrival; the transactions of this home that are reading or collecting;
-- the acknowledgements taken of those that are decided
pub record View : Type 0 where
  pub cluster : ClusterData
  pub journal : List Record
  pub next : Ident
  pub held : List HeldRead
  pub desk : TxId → Option Open
  pub acks : TxId → List NodeId

-- what it knows as a participant
abbrev pub participant : View → Participant
participant v = record { cluster = v.cluster; journal = v.journal; next = v.next }

-- ---- the view behind a history

-- what a node of this cluster knows as a participant
abbrev pub participant_of : ClusterData → Node → Participant
participant_of c h = record { cluster = c; journal = h.journal; next = h.next }

-- what a home knows of an open transaction, by its story
abbrev pub open_of : ScriptData → Story → Open
open_of s x = record { script = s; progress = x.progress }

-- the same, where the phase is an open one
abbrev pub open_by : ScriptData → Phase → Option Story → Option Open
open_by s p None = None
open_by s p (Some x) = if is_open p then Some (open_of s x) else None

-- a transaction of home n that is reading or collecting
abbrev pub open_at : NodeId → Node → Option ScriptData → Option Story → Option Open
open_at n h None o = None
open_at n h (Some s) o = if s.home == n then open_by s (phase_at s o h) o else None

-- the acknowledgements in a story
abbrev pub acks_by : Option Story → List NodeId
acks_by None = []
acks_by (Some x) = x.acks

-- the acknowledgements taken of a decided transaction of home n
abbrev pub acks_at : NodeId → Node → TxId → Option ScriptData → Option Story → List NodeId
acks_at n h t None o = []
acks_at n h t (Some s) o = if (s.home == n) && is_some (undone t h.journal) then acks_by o else []

-- the view of node n, by the node and by what happened to the transactions
abbrev pub view_of : DocumentData → NodeId → Node → (TxId → Option Story) → View
view_of d n h stories =
    record {
      cluster = d.cluster;
      journal = h.journal;
      next = h.next;
      held = h.held;
      desk = λ t. open_at n h (script_of t d.scripts) (stories t);
      acks = λ t. acks_at n h t (script_of t d.scripts) (stories t);
    }

-- the view of node n behind these acts
abbrev pub view : DocumentData → List Act → NodeId → View
view d past n = view_of d n (node d past n) (story d past)

-- ---- where a transaction stands for its home

-- none of the others; reading an operation; collecting; decided, with these acknowledgements
pub data Stage : Type 0 where
  Apart : Stage
  Reads : Open → ℕ → Stage
  Collects : Open → Stage
  Commits : Decision → List NodeId → Stage

-- an open transaction reads an operation, or collects
abbrev pub open_stage : Open → Option ℕ → Stage
open_stage x None = Collects x
open_stage x (Some j) = Reads x j

-- a decision comes first, then what is open
abbrev pub stage_by : Option Decision → Option Open → List NodeId → Stage
stage_by (Some y) o acks = Commits y acks
stage_by None (Some x) acks = open_stage x (waiting x.script.ops x.progress.values)
stage_by None None acks = Apart

-- where t stands at n, by the node, the script of t and its story
abbrev pub stage_at : NodeId → Node → TxId → Option ScriptData → Option Story → Stage
stage_at n h t s o = stage_by (undone t h.journal) (open_at n h s o) (acks_at n h t s o)

-- where t stands: decided with these acknowledgements, reading an operation, collecting, or none of these
abbrev pub stage : View → TxId → Stage
stage v t = stage_by (undone t v.journal) (v.desk t) (v.acks t)

-- it is neither open nor decided: its number is not at the desk
abbrev pub is_apart : Stage → Bool
is_apart Apart = true
is_apart s = false

-- the phase of a transaction that stands so; of the others none is known
abbrev pub phase_in : Stage → Phase
phase_in (Reads x j) = Reading j
phase_in (Collects x) = Collecting
phase_in (Commits y acks) = Decided y
phase_in Apart = Unbegun
