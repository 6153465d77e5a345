-- The tally of a run: what its summary needs of the acts so far. It is told act by act and has no act in it.
use Rattle.std.specs.Prelude.{ℕ, true, false, List, [], ◌∷◌, ◌++◌, Option, Some, None}
use Rattle.score_base.specs.declared.ids.TxId.{TxId}
use Rattle.score_base.specs.declared.ids.NodeId.{NodeId}
use Rattle.score_base.specs.declared.ids.Ident.{Ident}
use Rattle.score_base.specs.declared.ids.Value.{Value}
use Rattle.score_base.specs.declared.keys.Key.{Key}
use Rattle.score_base.specs.declared.causes.Outcome.{Outcome}
use Rattle.score_base.specs.declared.causes.Outcome.TheVariants as outcome
use Rattle.script_lang.specs.Scripts.{ScriptData}
use Rattle.journal_words.specs.Journals.{without}
use Rattle.grid_model.specs.declared.acts.Act.{Act}
use Rattle.grid_model.specs.declared.acts.Act.TheVariants as act
use Rattle.grid_model.specs.declared.acts.Flag.{Flag}
use Rattle.grid_model.specs.declared.acts.Flag.TheVariants as flag
use Rattle.grid_model.specs.declared.acts.Head.{Head}
use Rattle.grid_model.specs.declared.acts.Head.TheVariants as head
use Rattle.grid_model.specs.declared.messages.Message.{Message}
use Rattle.grid_model.specs.declared.messages.Message.TheVariants as message
use Rattle.grid_model.specs.Documents.{DocumentData}
use Rattle.grid_model.specs.Keyed.{at_key, put_key}
use Rattle.grid_model.specs.Nodes.{script_of}
use Rattle.grid_model.specs.Stories.{first_sid}
use Rattle.run_tally.specs.declared.noted.Noted.{Noted}
use Rattle.run_tally.specs.declared.txs.TxTally.{TxTally}

-- ---- what a tally has

-- Of a node: what a Prepare that was sent to it writes there, by its transaction, journalled or not; of the
-- records that stand, the newest first, each pending transaction with its proposal, and each commit and each
-- decision with its final identifier; and the head of its last Down, where it was not opened since.
pub record NodeData : Type 0 where
  pub writes : List (TxId × Noted)
  pub pending : List (TxId × Ident)
  pub commits : List (TxId × Ident)
  pub decided : List (TxId × Ident)
  pub stopped : Option Head

-- Of a run: one entry for each transaction that was begun, and one for each node of which something is told.
pub record TallyData : Type 0 where
  pub txs : List (TxId × TxTally)
  pub nodes : List (NodeId × NodeData)

-- ---- transactions

-- a transaction that begins
abbrev pub begun : Ident → TxTally
begun sid0 =
    record { sid0 = sid0; sid = None; values = []; finished = false; aborted = false; lost = false }

-- a reply is taken: the first fixes the snapshot identifier
abbrev pub with_value : ℕ → Ident → Value → TxTally → TxTally
with_value j sid v x = record x { sid = Some (first_sid x.sid sid); values = x.values ++ (j, v) ∷ [] }

-- the client was told, the home aborted it, the home stopped and lost it
abbrev pub as_finished : TxTally → TxTally
as_finished x = record x { finished = true }

abbrev pub as_aborted : TxTally → TxTally
as_aborted x = record x { aborted = true }

abbrev pub as_lost : TxTally → TxTally
as_lost x = record x { lost = true }

-- the entries with this one of t changed, where there is one
abbrev pub retold_by : TxId → (TxTally → TxTally) → Option TxTally → List (TxId × TxTally) → List (TxId × TxTally)
retold_by t f None xs = xs
retold_by t f (Some x) xs = put_key t (f x) xs

-- the entries with that of t changed, where there is one
abbrev pub retold : TxId → (TxTally → TxTally) → List (TxId × TxTally) → List (TxId × TxTally)
retold t f xs = retold_by t f (at_key t xs) xs

-- ---- nodes

-- nothing is told of a node
abbrev pub blank : NodeData
blank = record { writes = []; pending = []; commits = []; decided = []; stopped = None }

-- an entry, or that of which nothing is told
abbrev pub or_blank : Option NodeData → NodeData
or_blank None = blank
or_blank (Some x) = x

-- the entry of node n
abbrev pub node_in : NodeId → List (NodeId × NodeData) → NodeData
node_in n xs = or_blank (at_key n xs)

-- the entries with that of n changed
abbrev pub with_node : NodeId → (NodeData → NodeData) → List (NodeId × NodeData) → List (NodeId × NodeData)
with_node n f xs = put_key n (f (node_in n xs)) xs

-- what is noted of a Prepare
abbrev pub as_noted : List (Key × Value) → Noted
as_noted ws = record { writes = ws }

-- a message comes on its way to a node: what a Prepare writes there is noted
abbrev pub noted : Message → NodeData → NodeData
noted (message.Prepare q) x = record x { writes = put_key q.t (as_noted q.writes) x.writes }
noted said x = x

-- a transaction that was pending ended
abbrev pub with_end : TxId → Outcome → NodeData → NodeData
with_end t (outcome.Commit f) x = record x { pending = without t x.pending; commits = (t, f) ∷ x.commits }
with_end t outcome.Abort x = record x { pending = without t x.pending }

-- a record of this head stands
abbrev pub with_record : Head → NodeData → NodeData
with_record (head.Prepared t p) x = record x { pending = (t, p) ∷ x.pending }
with_record (head.Ended t o) x = with_end t o x
with_record (head.Decided t f) x = record x { decided = (t, f) ∷ x.decided }
with_record h x = x

-- the node stops, maybe while a record of this head was being written
abbrev pub with_stop : Option Head → NodeData → NodeData
with_stop h x = record x { stopped = h }

-- the record in doubt stands, where it was kept
abbrev pub found : Flag → Option Head → NodeData → NodeData
found flag.Kept (Some h) x = with_record h x
found f h x = x

-- the node is opened: no record is in doubt any more
abbrev pub with_start : Flag → NodeData → NodeData
with_start f x = record (found f x.stopped x) { stopped = None }

-- the home of a script, where there is one
abbrev pub home_by : Option ScriptData → Option NodeId
home_by None = None
home_by (Some s) = Some s.home

-- the node of which an act tells: that of the record, the receiver of a message, the home that decides
abbrev pub node_told : DocumentData → Act → Option NodeId
node_told d (act.Sent m x y said) = Some y
node_told d (act.Prepared n t p) = Some n
node_told d (act.Ended n t o) = Some n
node_told d (act.Decided t f) = home_by (script_of t d.scripts)
node_told d (act.Down n h) = Some n
node_told d (act.Up n f) = Some n
node_told d a = None

-- that node behind the act
abbrev pub node_behind : Act → NodeData → NodeData
node_behind (act.Sent m from to said) x = noted said x
node_behind (act.Prepared n t p) x = with_record (head.Prepared t p) x
node_behind (act.Ended n t o) x = with_record (head.Ended t o) x
node_behind (act.Decided t f) x = with_record (head.Decided t f) x
node_behind (act.Down n h) x = with_stop h x
node_behind (act.Up n f) x = with_start f x
node_behind a x = x

-- ---- the tally, act by act

-- no act is taken
abbrev pub TallyStart : DocumentData → TallyData
TallyStart d = record { txs = []; nodes = [] }

-- the transactions behind one act more
abbrev pub txs_behind : Act → List (TxId × TxTally) → List (TxId × TxTally)
txs_behind (act.Began t n sid0) xs = put_key t (begun sid0) xs
txs_behind (act.Taken t j sid v) xs = retold t (with_value j sid v) xs
txs_behind (act.Finished t) xs = retold t as_finished xs
txs_behind (act.Aborted t n why) xs = retold t as_aborted xs
txs_behind (act.Lost t) xs = retold t as_lost xs
txs_behind a xs = xs

-- the nodes behind an act that tells of this one, where there is one
abbrev pub nodes_at : Option NodeId → Act → List (NodeId × NodeData) → List (NodeId × NodeData)
nodes_at None a xs = xs
nodes_at (Some n) a xs = with_node n (node_behind a) xs

-- the nodes behind one act more
abbrev pub nodes_behind : DocumentData → Act → List (NodeId × NodeData) → List (NodeId × NodeData)
nodes_behind d a xs = nodes_at (node_told d a) a xs

-- the tally of a run of d behind one act more
abbrev pub TallyStep : DocumentData → TallyData → Act → TallyData
TallyStep d x a = record { txs = txs_behind a x.txs; nodes = nodes_behind d a x.nodes }

-- the tally behind these acts, in the order of time
abbrev pub tally_after : DocumentData → TallyData → List Act → TallyData
tally_after d x [] = x
tally_after d x (a ∷ acts) = tally_after d (TallyStep d x a) acts

-- the tally of these acts, in the order of time
abbrev pub tally_of : DocumentData → List Act → TallyData
tally_of d acts = tally_after d (TallyStart d) acts
