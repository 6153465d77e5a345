-- The state of a run: what the rows of items and the fuses read of the acts so far, and what one act more leaves of it.
use Rattle.std.specs.Prelude.{ℕ, Bool, List, [], ◌∷◌, Option}
use Rattle.score_base.specs.declared.ids.TxId.{TxId}
use Rattle.score_base.specs.declared.ids.NodeId.{NodeId}
use Rattle.script_lang.specs.Scripts.{ScriptData}
use Rattle.grid_model.specs.declared.acts.Act.{Act}
use Rattle.grid_model.specs.declared.messages.Envelope.{Envelope}
use Rattle.grid_model.specs.declared.stories.Story.{Story}
use Rattle.grid_model.specs.Documents.{DocumentData}
use Rattle.grid_model.specs.Histories.{sent, sent_behind, is_gone, gone_behind}
use Rattle.grid_model.specs.Nodes.{Node, node, got, got_behind, change, changed}
use Rattle.grid_model.specs.Disks.{is_compacting, compacting_behind}
use Rattle.grid_model.specs.Stories.{Phase, phase_at, story, told_on}
use Rattle.grid_model.specs.Views.{View, view_of}
use Rattle.grid_model.specs.Fuses.{Fuse, fuse, fuse_behind, fuse_at_stop, stop_behind}

-- The state: the messages that were sent, in order; which of them were got, missed or dropped; the
-- message of the last Got; the nodes; which of them stopped in a compaction; what happened to each
-- transaction; the armed fuses; the fuse of each node before its last Down.
pub record State : Type 0 where
  pub sent : List Envelope
  pub gone : ℕ → Bool
  pub got : Option Envelope
  pub nodes : NodeId → Node
  pub compacting : NodeId → Bool
  pub stories : TxId → Option Story
  pub fuses : NodeId → Option Fuse
  pub fuses_at_stop : NodeId → Option Fuse

-- the state behind these acts
abbrev pub state_of : DocumentData → List Act → State
state_of d past =
    record {
      sent = sent past;
      gone = is_gone past;
      got = got past;
      nodes = node d past;
      compacting = is_compacting past;
      stories = story d past;
      fuses = fuse d past;
      fuses_at_stop = fuse_at_stop d past;
    }

-- ---- what the rows read of it

-- the view of a node
abbrev pub view_in : DocumentData → State → NodeId → View
view_in d st n = view_of d n (st.nodes n) st.stories

-- the phase of a script's transaction
abbrev pub phase_on : State → ScriptData → Phase
phase_on st s = phase_at s (st.stories s.number) (st.nodes s.home)

-- ---- one act more

-- node n behind an act
abbrev pub node_behind : DocumentData → State → Act → NodeId → Node
node_behind d st a n = changed (change d st.got a n) (st.nodes n)

-- the state behind one act more
abbrev pub state_behind : DocumentData → State → Act → State
state_behind d st a =
    record {
      sent = sent_behind a st.sent;
      gone = λ m. gone_behind a m (st.gone m);
      got = got_behind a st.sent st.got;
      nodes = node_behind d st a;
      compacting = λ n. compacting_behind a n (st.compacting n);
      stories = λ t. told_on d st.sent st.nodes a t (st.stories t);
      fuses = λ n. fuse_behind d a n (node_behind d st a n) (st.fuses n);
      fuses_at_stop = λ n. stop_behind a n (st.fuses n) (st.fuses_at_stop n);
    }

-- the state behind these acts, in the order of time
abbrev pub state_after : DocumentData → State → List Act → State
state_after d st [] = st
state_after d st (a ∷ acts) = state_after d (state_behind d st a) acts
