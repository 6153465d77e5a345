-- What is kept of a run beside its acts: what they tell of messages, nodes and transactions.
use Rattle.std.specs.Prelude.{◌≡◌, ◌≤◌, ℕ, ◌-◌, Bool, true, false, ◌==◌, map, List, [], ◌∷◌, ◌++◌, length, Option, Some, None, slice_index_or, if◌then◌else◌}
use Rattle.score_base.specs.declared.ids.TxId.{TxId}
use Rattle.score_base.specs.declared.ids.NodeId.{NodeId}
use Rattle.script_lang.specs.Scripts.{ScriptData}
use Rattle.placement.specs.Places.{holders}
use Rattle.grid_model.specs.declared.acts.Act.{Act}
use Rattle.grid_model.specs.declared.acts.Act.TheVariants as act
use Rattle.grid_model.specs.declared.messages.Envelope.{Envelope}
use Rattle.grid_model.specs.declared.messages.Message.{Message}
use Rattle.grid_model.specs.declared.messages.Message.TheVariants as message
use Rattle.grid_model.specs.declared.stories.Story.{Story}
use Rattle.grid_model.specs.Documents.{DocumentData}
use Rattle.grid_model.specs.Histories.{after, sent, sent_at, is_gone}
use Rattle.grid_model.specs.Keyed.{at_key, put_key}
use Rattle.grid_model.specs.Nodes.{Node, blank, node, got, script_of, parts_of, is_home}
use Rattle.grid_model.specs.Disks.{compacting_behind}
use Rattle.grid_model.specs.Stories.{story, begun_in, with_request, with_value, without_answers, heard, phase_at, progressed}

-- a run so far: the acts of a document, in the order of time
pub record RunData : Type 0 where
  pub doc : DocumentData
  pub acts : List Act

-- its acts, the newest first
abbrev pub past : RunData → List Act
past r = after [] r.acts

-- ---- messages

-- the messages behind one act more
abbrev pub posted : Act → List Envelope → List Envelope
posted (act.Sent m x y said) ms = ms ++ record { from = x; to = y; message = said } ∷ []
posted a ms = ms

-- the message of the last Got behind one act more
abbrev pub got_by : Act → List Envelope → Option Envelope → Option Envelope
got_by (act.Got m) ms o = sent_at m ms
got_by a ms o = o

-- the message that an act takes away
abbrev pub going : Act → Option ℕ
going (act.Got m) = Some m
going (act.Missed m) = Some m
going (act.Dropped m) = Some m
going a = None

-- the option has this number
abbrev pub is_number : Option ℕ → ℕ → Bool
is_number None k = false
is_number (Some m) k = m == k

-- number m is marked
abbrev pub is_marked : List Bool → ℕ → Bool
is_marked xs m = slice_index_or xs m false

-- ---- nodes

-- the home of a script, where there is one
abbrev pub home_in : Option ScriptData → Option NodeId
home_in None = None
home_in (Some s) = Some s.home

-- the node that an act is of
abbrev pub place_of : DocumentData → Act → Option NodeId
place_of d (act.Prepared n t p) = Some n
place_of d (act.Ended n t o) = Some n
place_of d (act.Ceiling n c) = Some n
place_of d (act.Decided t f) = home_in (script_of t d.scripts)
place_of d (act.Closed t) = home_in (script_of t d.scripts)
place_of d (act.Raised n sid) = Some n
place_of d (act.Held n t op sid) = Some n
place_of d (act.Served n t op k sid vn v) = Some n
place_of d (act.Down n h) = Some n
place_of d (act.Up n f) = Some n
place_of d (act.StillDown n) = Some n
place_of d a = None

-- a compaction of n is in doubt behind these acts, in the order of time, where it was or was not before
abbrev pub compacting_after : NodeId → Bool → List Act → Bool
compacting_after n b [] = b
compacting_after n b (a ∷ acts) = compacting_after n (compacting_behind a n b) acts

-- node n of a list of the nodes from 1 on
abbrev pub node_in : List Node → ℕ → Node
node_in nodes n = slice_index_or nodes (n - 1) blank

-- ---- stories

-- the story of a transaction with a change
abbrev pub retold : TxId → (Story → Story) → Option Story → Option (TxId × Story)
retold t f None = None
retold t f (Some x) = Some (t, f x)

-- a story with its transaction, where there is one
abbrev pub paired : TxId → Option Story → Option (TxId × Story)
paired t None = None
paired t (Some x) = Some (t, x)

-- the transaction that votes or acknowledges
abbrev pub voter : Message → Option TxId
voter (message.Vote t b) = Some t
voter (message.Ack t) = Some t
voter said = None

-- the story that a message changes, where its transaction has a script and this is its home
abbrev pub hearing_at : DocumentData → List Act → Envelope → TxId → Option ScriptData → Option (TxId × Story)
hearing_at d past e t None = None
hearing_at d past e t (Some s) =
    if e.to == s.home then paired t (heard (parts_of d s) (phase_at s (story d past t) (node d past s.home))
    (node d past s.home) s.number e.from e.message (story d past t)) else None

-- the story that a message of a voter changes
abbrev pub hearing_of : DocumentData → List Act → Envelope → Option TxId → Option (TxId × Story)
hearing_of d past e None = None
hearing_of d past e (Some t) = hearing_at d past e t (script_of t d.scripts)

-- the story that a message changes where it is got
abbrev pub hearing : DocumentData → List Act → Option Envelope → Option (TxId × Story)
hearing d past None = None
hearing d past (Some e) = hearing_of d past e (voter e.message)

-- the story that a message changes where it is sent
abbrev pub asking : DocumentData → List Act → Message → Option (TxId × Story)
asking d past (message.ReadReq q) =
    retold q.t (progressed (with_request (length (holders d.cluster.places q.key)))) (story d past q.t)
asking d past said = None

-- the story that an act changes, as it is behind the act; a Down may change many
abbrev pub telling : DocumentData → List Act → Act → Option (TxId × Story)
telling d past (act.Began t n sid0) = Some (t, begun_in d (node d past) t sid0)
telling d past (act.Sent m x y said) = asking d past said
telling d past (act.Got m) = hearing d past (sent_at m (sent past))
telling d past (act.Taken t j sid v) = retold t (progressed (with_value j sid v)) (story d past t)
telling d past (act.Finished t) = retold t (λ x. record x { finished = true }) (story d past t)
telling d past (act.Aborted t n c) = retold t (λ x. record x { aborted = true }) (story d past t)
telling d past (act.Lost t) = retold t (λ x. record x { lost = true }) (story d past t)
telling d past a = None

-- the stories with one that is changed
abbrev pub put_telling : Option (TxId × Story) → List (ℕ × Story) → List (ℕ × Story)
put_telling None xs = xs
put_telling (Some x) xs = put_key x.0 x.1 xs

-- one story where node n stops
abbrev pub forgotten_one : DocumentData → NodeId → ℕ × Story → ℕ × Story
forgotten_one d n x = (x.0, if is_home d x.0 n then without_answers x.1 else x.1)

-- the stories where node n stops: its home forgets the votes and acknowledgements
abbrev pub forgotten : DocumentData → NodeId → List (ℕ × Story) → List (ℕ × Story)
forgotten d n xs = map (forgotten_one d n) xs

-- the stories behind one act more, which changes this one
abbrev pub retold_by : DocumentData → Act → Option (TxId × Story) → List (ℕ × Story) → List (ℕ × Story)
retold_by d (act.Down n h) o xs = forgotten d n xs
retold_by d a o xs = put_telling o xs

-- ---- all that is kept

-- the cluster's nodes have numbers up to 16; a list of nodes tells what the acts tell of each
pub record KeepsNodes (d : DocumentData) (past : List Act) (nodes : List Node) : Type 0 where
  pub count : length nodes ≡ 16
  pub each : (n : ℕ) → 1 ≤ n → n ≤ 16 → node_in nodes n ≡ node d past n

-- what is kept tells what the acts tell
pub record Keeps (d : DocumentData) (past : List Act) (ms : List Envelope) (marks : List Bool) (last : Option Envelope)
    (nodes : List Node) (stories : List (ℕ × Story)) : Type 0 where
  pub sent_is : ms ≡ sent past
  pub gone_is : (m : ℕ) → is_marked marks m ≡ is_gone past m
  pub got_is : last ≡ got past
  pub nodes_are : KeepsNodes d past nodes
  pub stories_are : (t : TxId) → at_key t stories ≡ story d past t
