-- What stands behind each message: the words of the past right before it that let it be sent.
use Rattle.std.proofs.Common.{◌≡◌, ℕ, ◌≤◌, ◌⊎◌, true, List, [], ◌∷◌, Some, None}
use Rattle.std.specs.Prelude.{IsTrue, is_some, if◌then◌else◌, ◌==◌}
use Rattle.score_base.specs.declared.ids.TxId.{TxId}
use Rattle.score_base.specs.declared.ids.NodeId.{NodeId}
use Rattle.score_base.specs.declared.ids.Ident.{Ident}
use Rattle.score_base.specs.declared.ids.Value.{Value}
use Rattle.score_base.specs.declared.keys.Key.{Key}
use Rattle.score_base.specs.declared.causes.Ballot.TheVariants as ballot
use Rattle.score_base.specs.declared.causes.Outcome.TheVariants as outcome
use Rattle.script_lang.specs.declared.scripts.Op.{Op}
use Rattle.script_lang.specs.Scripts.{ScriptData}
use Rattle.script_lang.specs.Reads.{key_of, is_update}
use Rattle.placement.specs.Places.{is_among, holds}
use Rattle.grid_model.specs.declared.acts.Act.{Act}
use Rattle.grid_model.specs.declared.acts.Act.TheVariants as act
use Rattle.grid_model.specs.declared.messages.Message.{Message}
use Rattle.grid_model.specs.declared.messages.Message.TheVariants as message
use Rattle.grid_model.specs.declared.messages.Prepare.{Prepare}
use Rattle.grid_model.specs.declared.messages.ReadReq.{ReadReq}
use Rattle.grid_model.specs.declared.stories.HeldRead.{HeldRead}
use Rattle.grid_model.specs.declared.stories.Story.{Story}
use Rattle.grid_model.specs.Documents.{DocumentData}
use Rattle.journal_words.specs.Journals.{names_part, Decision, commit_id, ended, floor, home_of, is_clear, is_commit, pending, undone}
use Rattle.grid_model.specs.Nodes.{got, held_by, with_held, node, journal, script_of, parts_of}
use Rattle.grid_model.specs.Stories.{story}
use Rattle.script_runs.specs.Waits.{waiting}
use Rattle.grid_model.specs.Views.{Apart, view, stage, open_of}
use Rattle.script_runs.specs.Walks.{op_at}
use Rattle.grid_model.specs.Advances.{date_by, prepare_for}
use Rattle.grid_model.specs.Fitness.{is_fit_request, is_fit_prepare}
use Rattle.grid_model.specs.Rows.{dated, version_for}
use Rattle.grid_model.specs.Facts.{is_given_up}

-- the last message that was got came to n from x and says this
abbrev pub IsGot : List Act → NodeId → NodeId → Message → Type 0
IsGot past n x said = got past ≡ Some (record { from = x; to = n; message = said })

abbrev pub IsUp : DocumentData → List Act → NodeId → Type 0
IsUp d past n = (node d past n).up ≡ true

-- t is begun, and n is its home
pub record AtHome (d : DocumentData) (past : List Act) (n : NodeId) (t : TxId) (s : ScriptData) (x : Story) : Type 0
  where
    pub script : script_of t d.scripts ≡ Some s
    pub home : s.home ≡ n
    pub story : story d past t ≡ Some x

-- ---- the messages

-- a home asks for the first remote read without a value
pub record RequestDue (d : DocumentData) (past : List Act) (n y : NodeId) (q : ReadReq) : Type 0 where
  pub script : ScriptData
  pub story : Story
  pub at : AtHome d past n q.t script story
  pub reads : waiting script.ops story.progress.values ≡ Some q.op
  pub op : Op
  pub named : op_at script.ops q.op ≡ Some op
  pub key : q.key ≡ key_of op
  pub holds : IsTrue (holds d.cluster.places y q.key)
  pub date : q.date ≡ date_by story.progress.sid0 story.progress.sid

-- a home asks a part of an update whose remote reads have their values
pub record PrepareDue (d : DocumentData) (past : List Act) (n y : NodeId) (q : Prepare) : Type 0 where
  pub script : ScriptData
  pub story : Story
  pub at : AtHome d past n q.t script story
  pub full : waiting script.ops story.progress.values ≡ None
  pub update : is_update script.ops ≡ true
  pub part : IsTrue (is_among y (parts_of d script))
  pub is : q ≡ prepare_for d.cluster (open_of script story) y

-- n acts on a fit Prepare of t from x
pub record Asked (d : DocumentData) (past : List Act) (n x : NodeId) (t : TxId) : Type 0 where
  pub prepare : Prepare
  pub is : t ≡ prepare.t
  pub got : IsGot past n x (message.Prepare prepare)
  pub fit : is_fit_prepare d.cluster n prepare ≡ true

-- the reads that n held so far
abbrev pub held_ever : DocumentData → List Act → NodeId → List HeldRead
held_ever d [] n = []
held_ever d (act.Held m t op sid ∷ past) n =
    if m == n then with_held (held_by (got past) t op sid) (held_ever d past n) else held_ever d past n
held_ever d (a ∷ past) n = held_ever d past n

-- a read is one of these
abbrev pub IsIn : HeldRead → List HeldRead → Type 0
IsIn h [] = ⊥
IsIn h (x ∷ xs) = (x ≡ h) ⊎ IsIn h xs

-- n acts on a fit request from x of this read, which it dates so
pub record Requested (d : DocumentData) (past : List Act) (n : NodeId) (h : HeldRead) : Type 0 where
  pub request : ReadReq
  pub got : IsGot past n h.from (message.ReadReq request)
  pub fit : is_fit_request d.cluster n request ≡ true
  pub t : h.t ≡ request.t
  pub op : h.op ≡ request.op
  pub key : h.key ≡ request.key
  pub sid : h.sid ≡ dated request.date (commit_id (journal d past n))

-- the promise of a read stands in the floor and in the clock
pub record Covered (d : DocumentData) (past : List Act) (n : NodeId) (sid : Ident) : Type 0 where
  pub floor : sid ≤ floor (journal d past n)
  pub next : sid ≤ (node d past n).next

-- a read that n may serve: it was requested, or n held it
pub data MayServe (d : DocumentData) (past : List Act) (n : NodeId) (h : HeldRead) : Type 0 where
  at_once : Requested d past n h → Covered d past n h.sid → MayServe d past n h
  held : IsIn h (held_ever d past n) → MayServe d past n h

pub record ServeDue (d : DocumentData) (past : List Act) (n : NodeId) (h : HeldRead) (vn : Ident) (v : Value) : Type 0
  where
    pub up : IsUp d past n
    pub may : MayServe d past n h
    pub clear : is_clear h.sid (journal d past n) ≡ true
    pub ident : vn ≡ (version_for d.cluster (journal d past n) h.key h.sid).ident
    pub value : v ≡ (version_for d.cluster (journal d past n) h.key h.sid).value

-- a reply comes right behind the read that was served
pub record ReplyDue (d : DocumentData) (past : List Act) (n y : NodeId) (t : TxId) (op : ℕ) (sid : Ident) (v : Value) :
    Type 0 where
  pub key : Key
  pub vn : Ident
  pub before : List Act
  pub is : past ≡ act.Served n t op key sid vn v ∷ before
  pub may : MayServe d before n (record { t = t; op = op; sid = sid; key = key; from = y })

-- a commit is told by the home that decided it, or by a part that has ended so and was asked
pub data CommitDue (d : DocumentData) (past : List Act) (n y : NodeId) (t : TxId) (f : Ident) : Type 0 where
  by_home : (x : Decision) → undone t (journal d past n) ≡ Some x → x.final ≡ f → CommitDue d past n y t f
  by_part : IsGot past n y (message.AskPeer t) → ended t (journal d past n) ≡ Some (outcome.Commit f)
      → CommitDue d past n y t f

-- an abort is told where t was given up, where its home, which was asked, knows no more of it, or by a part
-- that has ended so and was asked
pub data AbortDue (d : DocumentData) (past : List Act) (n y : NodeId) (t : TxId) : Type 0 where
  ended_so : IsGot past n y (message.AskPeer t) → ended t (journal d past n) ≡ Some outcome.Abort
      → AbortDue d past n y t
  given_up : IsTrue (is_given_up t past) → AbortDue d past n y t
  apart : IsGot past n y (message.Ask t) → stage (view d past n) t ≡ Apart → AbortDue d past n y t

-- what stands behind a message that n sends to y
abbrev pub SendDue : DocumentData → List Act → NodeId → NodeId → Message → Type 0
SendDue d past n y (message.ReadReq q) = RequestDue d past n y q
SendDue d past n y (message.ReadRep q) = ReplyDue d past n y q.t q.op q.sid q.value
SendDue d past n y (message.Prepare q) = PrepareDue d past n y q
SendDue d past n y (message.Vote t (ballot.Yes p)) = Asked d past n y t × (pending t (journal d past n) ≡ Some p)
SendDue d past n y (message.Vote t (ballot.No why)) =
    Asked d past n y t × (before : List Act) × (past ≡ act.Refused n t why ∷ before)
SendDue d past n y (message.Tell t (outcome.Commit f)) = CommitDue d past n y t f
SendDue d past n y (message.Tell t outcome.Abort) = AbortDue d past n y t
SendDue d past n y (message.Ack t) =
    (is_commit (ended t (journal d past n)) ≡ true) × (home_of t (journal d past n) ≡ Some y)
SendDue d past n y (message.Ask t) =
    (is_some (pending t (journal d past n)) ≡ true) × (home_of t (journal d past n) ≡ Some y)
SendDue d past n y (message.AskPeer t) =
    (is_some (pending t (journal d past n)) ≡ true) × (names_part t y (journal d past n) ≡ true)
