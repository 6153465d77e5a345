-- An end that is told to a participant: what is answered and why, what is due, and the row that they give.
use Rattle.std.specs.Prelude.{◌≡◌, ◌&&◌, Bool, true, false, IsTrue, List, [], ◌∷◌, Option, Some, None, is_some, if◌then◌else◌}
use Rattle.score_base.specs.declared.ids.TxId.{TxId}
use Rattle.score_base.specs.declared.ids.NodeId.{NodeId}
use Rattle.score_base.specs.declared.ids.Ident.{Ident}
use Rattle.score_base.specs.declared.causes.Outcome.{Outcome}
use Rattle.score_base.specs.declared.causes.Outcome.TheVariants as outcome
use Rattle.score_base.specs.declared.records.Record.{Record}
use Rattle.score_base.specs.declared.records.Record.TheVariants as record'
use Rattle.journal_words.specs.Journals.{pending, ended, is_commit, home_of, fits, fits_outcome}
use Rattle.grid_model.specs.declared.acts.Act.TheVariants as act
use Rattle.grid_model.specs.declared.events.Out.{Out}
use Rattle.grid_model.specs.declared.events.Out.TheVariants as out
use Rattle.grid_model.specs.declared.messages.Message.TheVariants as message
use Rattle.grid_model.specs.Advances.{to_node}
use Rattle.grid_store.specs.Given.{Given, HasRoom}
use Rattle.ordered_commit.specs.declared.dues.EndDue.{EndDue}
use Rattle.ordered_commit.specs.declared.learning.Learnt.{Learnt}
use Rattle.ordered_commit.specs.declared.learning.Learnt.TheVariants.{Due, Ack, Ignore}

-- an end can be learnt: where the transaction is pending, a final identifier is at least its proposal
abbrev pub CanLearn : Given → TxId → Outcome → Type 0
CanLearn s t o = (p : Ident) → pending t s.journal ≡ Some p → fits_outcome (Some p) o ≡ true

-- ---- answers and their causes

-- to whom a commit that is told is acknowledged where t ended here with commit
abbrev pub repeat_of : TxId → Outcome → List Record → Option NodeId
repeat_of t o r = if is_commit (Some o) && is_commit (ended t r) then home_of t r else None

-- the same, where t is not pending
abbrev pub ack_of : TxId → Outcome → List Record → Option NodeId
ack_of t o r = if is_some (pending t r) then None else repeat_of t o r

-- the answer is that an end is due
abbrev pub is_due : Learnt → Bool
is_due (Due due rec) = true
is_due (Ack home) = false
is_due Ignore = false

-- to whom an end of before is acknowledged
abbrev pub ack_in : Learnt → Option NodeId
ack_in (Due due rec) = None
ack_in (Ack home) = Some home
ack_in Ignore = None

-- what holds of an end that is due
abbrev pub IfDue : Learnt → (EndDue → Record → Type 0) → Type 0
IfDue (Due due rec) P = P due rec
IfDue (Ack home) P = Unit {0}
IfDue Ignore P = Unit {0}

-- ---- what is due

-- an end of t is due on its record, which fits and has room
pub record IsDue (s : Given) (t : TxId) (o : Outcome) (due : EndDue) (rec : Record) : Type 0 where
  pub tx : due.t ≡ t
  pub outcome : due.outcome ≡ o
  pub home : home_of t s.journal ≡ Some due.home
  pub is : rec ≡ record'.Ended t o
  pub fit : fits s.cluster s.node s.journal rec ≡ true
  pub room : HasRoom rec s.room

-- the record is the Ended on which the end is due
abbrev pub IsOf : EndDue → Record → Type 0
IsOf due rec = rec ≡ record'.Ended due.t due.outcome

-- to whom an end that is due is acknowledged: a commit to its home, an abort to nobody
abbrev pub acked : EndDue → Option NodeId
acked due = if is_commit (Some due.outcome) then Some due.home else None

-- ---- the row

-- what node n gives where an end was due and was settled, by whom it is acknowledged to
abbrev pub settle_outs : NodeId → TxId → Outcome → Option NodeId → List Out
settle_outs n t o home = out.Act (act.Ended n t o) ∷ to_node home (message.Ack t)

-- what node n gives for an answer
abbrev pub learn_outs : NodeId → TxId → Outcome → Learnt → List Out
learn_outs n t o (Due due rec) = settle_outs n t o (acked due)
learn_outs n t o (Ack home) = out.Send home (message.Ack t) ∷ []
learn_outs n t o Ignore = []

-- the record that is due with an answer
abbrev pub record_in : Learnt → Option Record
record_in (Due due rec) = Some rec
record_in (Ack home) = None
record_in Ignore = None
