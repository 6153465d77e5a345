-- A Prepare at a participant: what is answered and why, what is due on a yes, and the row that they give.
use Rattle.std.specs.Prelude.{◌≡◌, ◌+◌, ◌<◌, ◌^◌, ◌||◌, max, Bool, true, false, IsTrue, List, [], ◌∷◌, Option, Some, None, is_some, if◌then◌else◌}
use Rattle.score_base.specs.declared.ids.TxId.{TxId}
use Rattle.score_base.specs.declared.ids.NodeId.{NodeId}
use Rattle.score_base.specs.declared.ids.Ident.{Ident}
use Rattle.score_base.specs.declared.keys.Key.{Key}
use Rattle.score_base.specs.declared.causes.Ballot.TheVariants as ballot
use Rattle.score_base.specs.declared.causes.Cause.{Cause}
use Rattle.score_base.specs.declared.causes.Cause.TheVariants as cause
use Rattle.score_base.specs.declared.records.Record.{Record}
use Rattle.score_base.specs.declared.records.Record.TheVariants as record'
use Rattle.placement.specs.Places.{is_among}
use Rattle.journal_words.specs.Journals.{pending, ended, holder, newer, are_lists, fits}
use Rattle.grid_model.specs.declared.acts.Act.TheVariants as act
use Rattle.grid_model.specs.declared.events.Out.{Out}
use Rattle.grid_model.specs.declared.events.Out.TheVariants as out
use Rattle.grid_model.specs.declared.messages.Message.TheVariants as message
use Rattle.grid_model.specs.declared.messages.Prepare.{Prepare}
use Rattle.grid_model.specs.Rows.{refused}
use Rattle.grid_store.specs.Given.{Given, HasRoom}
use Rattle.prepare_vote.specs.declared.dues.Due.{Due}
use Rattle.prepare_vote.specs.declared.judges.Judged.{Judged}
use Rattle.prepare_vote.specs.declared.judges.Judged.TheVariants.{Done, Again, No, Yes}

-- a Prepare can be judged: its snapshot and the clock are small, the node is one of its parts, and each
-- of its lists has distinct keys of the node, at least one in all
pub record CanJudge (s : Given) (q : Prepare) : Type 0 where
  pub sid : q.sid < 2 ^ 22
  pub next : s.next < 2 ^ 22
  pub part : is_among s.node q.parts ≡ true
  pub lists : are_lists s.cluster s.node q.reads q.writes ≡ true

-- ---- answers and their causes

-- t ended here, or is pending
abbrev pub is_known : TxId → List Record → Bool
is_known t r = is_some (ended t r) || is_some (pending t r)

-- the proposal that is voted once more: that of t where it is pending and did not end here
abbrev pub again_of : TxId → List Record → Option Ident
again_of t r = if is_some (ended t r) then None else pending t r

-- why a transaction is refused: the least holder, else the first newer version
abbrev pub refusal : Option TxId → Option (Key × Ident) → Option Cause
refusal (Some u) newer = Some (cause.Holder u)
refusal None (Some y) = Some (cause.Newer y.0 y.1)
refusal None None = None

-- why the transaction of a Prepare is refused, where it neither ended here nor is pending
abbrev pub refusal_of : List Record → Prepare → Option Cause
refusal_of r q =
    if is_known q.t r then None else refusal (holder r q.t q.reads q.writes) (newer r q.reads q.sid)

-- the answer is that all is done
abbrev pub is_done : Judged → Bool
is_done Done = true
is_done (Again p) = false
is_done (No why) = false
is_done (Yes due rec) = false

-- the proposal of a yes that is given again
abbrev pub again_in : Judged → Option Ident
again_in Done = None
again_in (Again p) = Some p
again_in (No why) = None
again_in (Yes due rec) = None

-- the cause of a no
abbrev pub refusal_in : Judged → Option Cause
refusal_in Done = None
refusal_in (Again p) = None
refusal_in (No why) = Some why
refusal_in (Yes due rec) = None

-- what holds of a yes that is due
abbrev pub IfYes : Judged → (Due → Record → Type 0) → Type 0
IfYes Done P = Unit {0}
IfYes (Again p) P = Unit {0}
IfYes (No why) P = Unit {0}
IfYes (Yes due rec) P = P due rec

-- ---- what is due

-- the record of a yes on a Prepare from x, with the proposal p
abbrev pub vote_record : NodeId → Prepare → Ident → Record
vote_record x q p = record'.Prepared q.t x q.parts q.sid p q.reads q.writes

-- a yes on a Prepare from x is due on its record, which fits and has room
pub record IsDue (s : Given) (x : NodeId) (q : Prepare) (due : Due) (rec : Record) : Type 0 where
  pub tx : due.t ≡ q.t
  pub home : due.home ≡ x
  pub proposal : due.p ≡ 1 + max s.next q.sid
  pub is : rec ≡ vote_record x q due.p
  pub fit : fits s.cluster s.node s.journal rec ≡ true
  pub room : HasRoom rec s.room

-- the record is the Prepared on which the yes is due
abbrev pub IsOf : Due → Record → Type 0
IsOf due (record'.Prepared t home parts sid p reads writes) = (t ≡ due.t) × (home ≡ due.home) × (p ≡ due.p)
IsOf due (record'.Ended t o) = ⊥
IsOf due (record'.Ceiling c) = ⊥
IsOf due (record'.Decided t f parts) = ⊥
IsOf due (record'.Closed t) = ⊥

-- ---- the row

-- what node n gives where a yes was due and the vote was given: its home and its proposal
abbrev pub vote_outs : NodeId → TxId → NodeId × Ident → List Out
vote_outs n t vote = out.Act (act.Prepared n t vote.1) ∷ (out.Send vote.0 (message.Vote t (ballot.Yes vote.1)) ∷ [])

-- what node n gives x for an answer
abbrev pub judge_outs : NodeId → NodeId → TxId → Judged → List Out
judge_outs n x t Done = []
judge_outs n x t (Again p) = out.Send x (message.Vote t (ballot.Yes p)) ∷ []
judge_outs n x t (No why) = refused n x t why
judge_outs n x t (Yes due rec) = vote_outs n t (due.home, due.p)

-- the record that is due with an answer
abbrev pub record_in : Judged → Option Record
record_in Done = None
record_in (Again p) = None
record_in (No why) = None
record_in (Yes due rec) = Some rec
