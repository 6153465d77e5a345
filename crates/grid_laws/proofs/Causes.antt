-- What stands behind each act: the words of the past right before it that let it come.
use Rattle.std.proofs.Common.{◌≡◌, ℕ, ◌≤◌, ◌<◌, true, false, List, [], ◌∷◌, ◌++◌, Option, Some, None}
use Rattle.std.specs.Prelude.{max, ◌+◌}
use Rattle.score_base.specs.declared.ids.TxId.{TxId}
use Rattle.score_base.specs.declared.ids.NodeId.{NodeId}
use Rattle.score_base.specs.declared.ids.Ident.{Ident}
use Rattle.score_base.specs.declared.ids.Value.{Value}
use Rattle.score_base.specs.declared.keys.Key.{Key}
use Rattle.score_base.specs.declared.causes.Ballot.TheVariants as ballot
use Rattle.score_base.specs.declared.causes.Cause.{Cause}
use Rattle.score_base.specs.declared.causes.Cause.TheVariants as cause
use Rattle.score_base.specs.declared.causes.Outcome.{Outcome}
use Rattle.score_base.specs.declared.records.Record.{Record}
use Rattle.script_lang.specs.Scripts.{ScriptData}
use Rattle.script_lang.specs.Reads.{is_update}
use Rattle.grid_model.specs.declared.acts.Act.{Act}
use Rattle.grid_model.specs.declared.acts.Act.TheVariants as act
use Rattle.grid_model.specs.declared.acts.Head.{Head}
use Rattle.grid_model.specs.declared.acts.Head.TheVariants as head
use Rattle.grid_model.specs.declared.messages.Envelope.{Envelope}
use Rattle.grid_model.specs.declared.messages.Message.TheVariants as message
use Rattle.grid_model.specs.declared.messages.Prepare.{Prepare}
use Rattle.grid_model.specs.declared.stories.HeldRead.{HeldRead}
use Rattle.grid_model.specs.declared.stories.Story.{Story}
use Rattle.grid_model.specs.Documents.{DocumentData}
use Rattle.grid_model.specs.Histories.{sent, sent_at}
use Rattle.journal_words.specs.Journals.{decision, Decision, ended, floor, holder, is_clear, newer, pending, undone, fits_outcome}
use Rattle.grid_model.specs.Nodes.{node, journal, script_of, parts_of}
use Rattle.grid_model.specs.Sessions.{first_at, is_busy_at}
use Rattle.grid_model.specs.Stories.{phase, is_open, story}
use Rattle.script_runs.specs.Waits.{waiting}
use Rattle.grid_model.specs.Views.{Commits, view, stage}
use Rattle.grid_model.specs.Fitness.{is_same_ident}
use Rattle.grid_model.specs.Rows.{are_all_among, ceiling_of, greatest_vote, have_voted}
use Rattle.grid_model.specs.Claims.{was_open}
pub use Rattle.grid_laws.proofs.MessageCauses.{IsGot, IsUp, AtHome, RequestDue, PrepareDue, Asked, held_ever, IsIn, Requested, Covered, MayServe, at_once, held, ServeDue, ReplyDue, CommitDue, by_home, by_part, AbortDue, ended_so, given_up, apart, SendDue}

-- ---- the records

pub record PreparedDue (d : DocumentData) (past : List Act) (n : NodeId) (t : TxId) (p : Ident) : Type 0 where
  pub from : NodeId
  pub asked : Asked d past n from t
  pub new : ended t (journal d past n) ≡ None
  pub free : pending t (journal d past n) ≡ None
  pub holder : holder (journal d past n) t asked.prepare.reads asked.prepare.writes ≡ None
  pub newer : newer (journal d past n) asked.prepare.reads asked.prepare.sid ≡ None
  pub proposal : p ≡ 1 + max (node d past n).next asked.prepare.sid

pub record EndedDue (d : DocumentData) (past : List Act) (n : NodeId) (t : TxId) (o : Outcome) : Type 0 where
  pub from : NodeId
  pub got : IsGot past n from (message.Tell t o)
  pub fit : fits_outcome (pending t (journal d past n)) o ≡ true

pub record CeilingDue (d : DocumentData) (past : List Act) (n : NodeId) (c : Ident) : Type 0 where
  pub read : HeldRead
  pub requested : Requested d past n read
  pub above : floor (journal d past n) < read.sid
  pub is : c ≡ ceiling_of read.sid

-- the home decides once each part has voted
pub record DecidedDue (d : DocumentData) (past : List Act) (n : NodeId) (t : TxId) (f : Ident) : Type 0 where
  pub script : ScriptData
  pub story : Story
  pub at : AtHome d past n t script story
  pub unended : is_open (phase d past script) ≡ true
  pub full : waiting script.ops story.progress.values ≡ None
  pub update : is_update script.ops ≡ true
  pub voted : have_voted (parts_of d script) story.progress.votes ≡ true
  pub some : (f ≡ greatest_vote story.progress.votes) × (1 ≤ f)
  pub new : undone t (journal d past n) ≡ None

-- the home closes once each part has acknowledged
pub record ClosedDue (d : DocumentData) (past : List Act) (n : NodeId) (t : TxId) : Type 0 where
  pub m : ℕ
  pub before : List Act
  pub from : NodeId
  pub is : past ≡ act.Got m ∷ before
  pub got : sent_at m (sent before) ≡ Some (record { from = from; to = n; message = message.Ack t })
  pub decision : Decision
  pub acks : List NodeId
  pub stage : stage (view d before n) t ≡ Commits decision acks
  pub all : are_all_among decision.parts (acks ++ from ∷ []) ≡ true

-- what stands behind a record or a compaction of n, whether or not the disk keeps it
abbrev pub HeadDue : DocumentData → List Act → NodeId → Head → Type 0
HeadDue d past n (head.Prepared t p) = PreparedDue d past n t p
HeadDue d past n (head.Ended t o) = EndedDue d past n t o
HeadDue d past n (head.Ceiling c) = CeilingDue d past n c
HeadDue d past n (head.Decided t f) = DecidedDue d past n t f
HeadDue d past n (head.Closed t) = ClosedDue d past n t
HeadDue d past n head.Compact = Unit {0}

abbrev pub RecordDue : DocumentData → List Act → NodeId → Head → Type 0
RecordDue d past n h = IsUp d past n × HeadDue d past n h

abbrev pub StopDue : DocumentData → List Act → NodeId → Option Head → Type 0
StopDue d past n None = IsUp d past n
StopDue d past n (Some h) = RecordDue d past n h

-- ---- the other acts

pub record BeganDue (d : DocumentData) (past : List Act) (t : TxId) (n : NodeId) (sid0 : Ident) : Type 0 where
  pub script : ScriptData
  pub is : script_of t d.scripts ≡ Some script
  pub home : script.home ≡ n
  pub up : IsUp d past n
  pub new : story d past t ≡ None
  pub undecided : decision script.number (journal d past n) ≡ None
  pub quiet : is_busy_at d past script ≡ false
  pub ident : sid0 ≡ first_at d past script

pub record TakenDue (d : DocumentData) (past : List Act) (t : TxId) (op : ℕ) (sid : Ident) (v : Value) : Type 0 where
  pub n : NodeId
  pub from : NodeId
  pub script : ScriptData
  pub story : Story
  pub at : AtHome d past n t script story
  pub got : IsGot past n from (message.ReadRep (record { t = t; op = op; sid = sid; value = v }))
  pub reads : waiting script.ops story.progress.values ≡ Some op
  pub same : is_same_ident sid story.progress.sid ≡ true

pub record HeldDue (d : DocumentData) (past : List Act) (n : NodeId) (h : HeldRead) : Type 0 where
  pub up : IsUp d past n
  pub requested : Requested d past n h
  pub covered : Covered d past n h.sid
  pub waits : is_clear h.sid (journal d past n) ≡ false

abbrev pub RefusedFor : List Record → TxId → Prepare → Cause → Type 0
RefusedFor r t q (cause.Holder u) = holder r t q.reads q.writes ≡ Some u
RefusedFor r t q (cause.Newer k f) = (holder r t q.reads q.writes ≡ None) × (newer r q.reads q.sid ≡ Some (k, f))

-- the home of an open update with all its values got a no
pub record AbortedDue (d : DocumentData) (past : List Act) (t : TxId) (x : NodeId) (why : Cause) : Type 0 where
  pub n : NodeId
  pub script : ScriptData
  pub story : Story
  pub at : AtHome d past n t script story
  pub got : IsGot past n x (message.Vote t (ballot.No why))
  pub up : IsUp d past n
  pub unended : is_open (phase d past script) ≡ true
  pub update : is_update script.ops ≡ true
  pub full : waiting script.ops story.progress.values ≡ None

-- the home was opened, and before that the transaction was open
pub record LostDue (d : DocumentData) (past : List Act) (t : TxId) : Type 0 where
  pub script : ScriptData
  pub is : script_of t d.scripts ≡ Some script
  pub number : script.number ≡ t
  pub up : IsUp d past script.home
  pub unended : is_open (phase d past script) ≡ true
  pub opened : was_open d t past ≡ true

-- an open read-only transaction has all its values
pub record ReadDue (d : DocumentData) (past : List Act) (t : TxId) : Type 0 where
  pub n : NodeId
  pub script : ScriptData
  pub story : Story
  pub at : AtHome d past n t script story
  pub unended : is_open (phase d past script) ≡ true
  pub full : waiting script.ops story.progress.values ≡ None
  pub reader : is_update script.ops ≡ false

-- a client is told right behind the decision, or once a read-only transaction has all its values
pub data FinishedDue (d : DocumentData) (past : List Act) (t : TxId) : Type 0 where
  by_decision : (f : Ident) (before : List Act) → past ≡ act.Decided t f ∷ before → FinishedDue d past t
  by_reads : ReadDue d past t → FinishedDue d past t

-- what stands behind an act
abbrev pub IsDue : DocumentData → List Act → Act → Type 0
IsDue d past (act.Began t n sid0) = BeganDue d past t n sid0
IsDue d past (act.Sent m n y said) = SendDue d past n y said
IsDue d past (act.Got m) = (e : Envelope) × (sent_at m (sent past) ≡ Some e) × IsUp d past e.to
IsDue d past (act.Raised n sid) = IsUp d past n × (sid ≤ floor (journal d past n))
IsDue d past (act.Served n t op k sid vn v) =
    (x : NodeId) × ServeDue d past n (record { t = t; op = op; sid = sid; key = k; from = x }) vn v
IsDue d past (act.Held n t op sid) =
    (k : Key) × (x : NodeId) × HeldDue d past n (record { t = t; op = op; sid = sid; key = k; from = x })
IsDue d past (act.Taken t op sid v) = TakenDue d past t op sid v
IsDue d past (act.Prepared n t p) = RecordDue d past n (head.Prepared t p)
IsDue d past (act.Refused n t why) =
    (x : NodeId) × (a : Asked d past n x t) × RefusedFor (journal d past n) t a.prepare why
IsDue d past (act.Ended n t o) = RecordDue d past n (head.Ended t o)
IsDue d past (act.Ceiling n c) = RecordDue d past n (head.Ceiling c)
IsDue d past (act.Decided t f) = (n : NodeId) × RecordDue d past n (head.Decided t f)
IsDue d past (act.Closed t) = (n : NodeId) × RecordDue d past n (head.Closed t)
IsDue d past (act.Compacted n) = RecordDue d past n head.Compact
IsDue d past (act.Finished t) = FinishedDue d past t
IsDue d past (act.Aborted t x why) = AbortedDue d past t x why
IsDue d past (act.Lost t) = LostDue d past t
IsDue d past (act.Down n h) = StopDue d past n h
IsDue d past a = Unit {0}

-- each of these acts, one behind the other, is due
abbrev pub AreDue : DocumentData → List Act → List Act → Type 0
AreDue d past [] = Unit {0}
AreDue d past (a ∷ acts) = IsDue d past a × AreDue d (a ∷ past) acts

-- each act of a past was due where it came
abbrev pub AllDue : DocumentData → List Act → Type 0
AllDue d [] = Unit {0}
AllDue d (a ∷ past) = IsDue d past a × AllDue d past
