-- What happened to a transaction since it was begun, and the phase that it is in.
use Rattle.std.specs.Prelude.{ℕ, ◌+◌, ◌^◌, Bool, true, false, ◌&&◌, ◌==◌, not, nat_lt, nat_le, List, [], ◌∷◌, ◌++◌, length, Option, Some, None, if◌then◌else◌}
use Rattle.std.specs.List.{list_any}
use Rattle.score_base.specs.declared.ids.TxId.{TxId}
use Rattle.score_base.specs.declared.ids.NodeId.{NodeId}
use Rattle.score_base.specs.declared.ids.Ident.{Ident}
use Rattle.score_base.specs.declared.ids.Value.{Value}
use Rattle.score_base.specs.declared.causes.Ballot.{Ballot}
use Rattle.score_base.specs.declared.causes.Ballot.TheVariants as ballot
use Rattle.score_base.specs.declared.causes.Cause.{Cause}
use Rattle.score_base.specs.declared.causes.Cause.TheVariants as cause
use Rattle.score_base.specs.declared.records.Record.{Record}
use Rattle.script_lang.specs.declared.scripts.Op.{Op}
use Rattle.script_lang.specs.Scripts.{ScriptData}
use Rattle.script_lang.specs.Reads.{is_update}
use Rattle.placement.specs.Places.{is_among, holders}
use Rattle.grid_model.specs.declared.acts.Act.{Act}
use Rattle.grid_model.specs.declared.acts.Act.TheVariants as act
use Rattle.grid_model.specs.declared.messages.Envelope.{Envelope}
use Rattle.grid_model.specs.declared.messages.Message.{Message}
use Rattle.grid_model.specs.declared.messages.Message.TheVariants as message
use Rattle.grid_model.specs.declared.stories.Progress.{Progress}
use Rattle.grid_model.specs.declared.stories.Story.{Story}
use Rattle.grid_model.specs.declared.stories.Voted.{Voted}
use Rattle.grid_model.specs.Documents.{DocumentData}
use Rattle.grid_model.specs.Histories.{sent, sent_at}
use Rattle.journal_words.specs.Journals.{floor, Decision, is_closed, later_decision, times_over}
use Rattle.grid_model.specs.Nodes.{Node, node, script_of, parts_of, is_home}
use Rattle.script_runs.specs.Waits.{waiting}

-- ---- the phase

-- where a transaction is: unbegun, lost, closed with its final identifier, decided, aborted, answered, reading an
-- operation, or collecting
pub data Phase : Type 0 where
  Unbegun : Phase
  Lost : Phase
  Closed : Ident → Phase
  Decided : Decision → Phase
  Aborted : Phase
  Answered : Phase
  Reading : ℕ → Phase
  Collecting : Phase

-- an open transaction reads an operation, or collects
abbrev pub open_phase : Option ℕ → Phase
open_phase (Some j) = Reading j
open_phase None = Collecting

-- a transaction of which no decision stands
abbrev pub undecided_phase : List Op → Story → Phase
undecided_phase ops x =
    if x.aborted then Aborted
    else (if x.finished && not (is_update ops) then Answered else open_phase (waiting ops x.progress.values))

-- a transaction that was not lost, by the decision that stands
abbrev pub decided_phase : List Op → Story → Bool → Option Decision → Phase
decided_phase ops x closed None = undecided_phase ops x
decided_phase ops x true (Some y) = Closed y.final
decided_phase ops x false (Some y) = Decided y

-- the phase of a transaction with these operations, by what happened to it and by what the journal of
-- its home says of it
abbrev pub phase_by : List Op → Option Story → Bool → Option Decision → Phase
phase_by ops None closed o = Unbegun
phase_by ops (Some x) closed o = if x.lost then Lost else decided_phase ops x closed o

-- the phase is collecting
abbrev pub is_collecting : Phase → Bool
is_collecting Collecting = true
is_collecting p = false

-- reading or collecting
abbrev pub is_open : Phase → Bool
is_open (Reading j) = true
is_open Collecting = true
is_open p = false

-- ---- fit votes and acknowledgements

-- identifiers are below 2^22, so that no clock wraps
abbrev pub is_small : Ident → Bool
is_small i = nat_lt i (2 ^ 22)

-- the floor and the clock of a node are small
abbrev pub is_small_node : List Record → Ident → Bool
is_small_node r next = is_small (floor r) && is_small next

-- the identifier of a cause is small
abbrev pub is_small_cause : Cause → Bool
is_small_cause (cause.Holder u) = true
is_small_cause (cause.Newer k f) = is_small f

-- the identifiers of a ballot are small, and the proposal of a yes is at least 1
abbrev pub is_fit_ballot : Ballot → Bool
is_fit_ballot (ballot.Yes p) = is_small p && nat_le 1 p
is_fit_ballot (ballot.No c) = is_small_cause c

-- the parts of a transaction in this phase: those of its script where it is open, of its Decided where
-- it is decided; else any sender is right
abbrev pub is_part : List NodeId → Phase → NodeId → Bool
is_part ns Collecting x = is_among x ns
is_part ns (Decided y) x = is_among x y.parts
is_part ns p x = true

-- ---- how far it came

-- nothing is taken yet
abbrev pub at_begin : Ident → Progress
at_begin sid0 = record { sid0 = sid0; turn = 0; sid = None; values = []; votes = [] }

-- the identifier that is there, or else this one
abbrev pub first_sid : Option Ident → Ident → Ident
first_sid None sid = sid
first_sid (Some s) sid = s

-- the place behind place i, in turn, of r places
abbrev pub place_behind : ℕ → ℕ → ℕ
place_behind r i = if nat_lt (i + 1) r then i + 1 else 0

-- a request more for a key of r holders
abbrev pub with_request : ℕ → Progress → Progress
with_request r x = record x { turn = place_behind r x.turn }

-- a reply is taken: the first fixes the snapshot identifier
abbrev pub with_value : ℕ → Ident → Value → Progress → Progress
with_value j sid v x = record x { turn = 0; sid = Some (first_sid x.sid sid); values = x.values ++ (j, v) ∷ [] }

-- a vote of n is among these
abbrev pub has_voted : NodeId → List Voted → Bool
has_voted n vs = list_any (λ v. v.from == n) vs

-- the first yes of each part
abbrev pub with_voted : NodeId → Ident → List Voted → List Voted
with_voted n p vs = if has_voted n vs then vs else vs ++ record { from = n; p = p } ∷ []

-- a yes is taken
abbrev pub with_vote : NodeId → Ident → Progress → Progress
with_vote n p x = record x { votes = with_voted n p x.votes }

-- ---- the story

-- a transaction that is begun where so many Decided of it are over
abbrev pub begun : ℕ → Ident → Story
begun k sid0 =
    record { progress = at_begin sid0; skipped = k; acks = []; finished = false; aborted = false; lost = false }

-- how many Decided of a transaction do not count
abbrev pub skipped_in : Option Story → ℕ
skipped_in None = 0
skipped_in (Some x) = x.skipped

-- how many Decided of a script's transaction are over at its home
abbrev pub over_at : (NodeId → Node) → Option ScriptData → ℕ
over_at nodes None = 0
over_at nodes (Some s) = times_over s.number (nodes s.home).journal

-- a transaction that begins where the nodes are so
abbrev pub begun_in : DocumentData → (NodeId → Node) → TxId → Ident → Story
begun_in d nodes t sid0 = begun (over_at nodes (script_of t d.scripts)) sid0

-- a transaction that came further
abbrev pub progressed : (Progress → Progress) → Story → Story
progressed f x = record x { progress = f x.progress }

-- a node among these, once
abbrev pub with_node : NodeId → List NodeId → List NodeId
with_node n ns = if is_among n ns then ns else ns ++ n ∷ []

-- each part is noted once
abbrev pub with_ack : NodeId → Story → Story
with_ack n x = record x { acks = with_node n x.acks }

-- the votes and acknowledgements are forgotten
abbrev pub without_answers : Story → Story
without_answers x = record x { progress = record x.progress { votes = [] }; acks = [] }

-- the story with a change, where it was told
abbrev pub if_told : Bool → (Story → Story) → Option Story → Option Story
if_told b f None = None
if_told true f (Some x) = Some (f x)
if_told false f (Some x) = Some x

-- a yes counts where the transaction is collecting and the vote is fit
abbrev pub is_counted_vote : List NodeId → Phase → List Record → Ident → NodeId → Ident → Bool
is_counted_vote ns p r next x proposal =
    is_collecting p && (is_small_node r next && (is_fit_ballot (ballot.Yes proposal) && is_part ns p x))

-- the phase is decided
abbrev pub is_decided : Phase → Bool
is_decided (Decided y) = true
is_decided p = false

-- an acknowledgement counts where the transaction is decided and it is fit
abbrev pub is_counted_ack : List NodeId → Phase → List Record → Ident → NodeId → Bool
is_counted_ack ns p r next x = is_decided p && (is_small_node r next && is_part ns p x)

-- a message that comes from x to the home, which is this node
abbrev pub heard : List NodeId → Phase → Node → TxId → NodeId → Message → Option Story → Option Story
heard ns p h t x (message.Vote u (ballot.Yes proposal)) o =
    if_told ((u == t) && is_counted_vote ns p h.journal h.next x proposal) (progressed (with_vote x proposal)) o
heard ns p h t x (message.Ack u) o = if_told ((u == t) && is_counted_ack ns p h.journal h.next x) (with_ack x) o
heard ns p h t x said o = o

-- the phase of a script's transaction, by its story and its home; a transaction that begins again leaves
-- the Decided of before behind
abbrev pub phase_at : ScriptData → Option Story → Node → Phase
phase_at s o h = phase_by s.ops o (is_closed s.number h.journal) (later_decision (skipped_in o) s.number h.journal)

-- the story behind a message, where the transaction has a script and the message comes to its home
abbrev pub heard_on : DocumentData → (NodeId → Node) → Option ScriptData → Option Envelope → Option Story → Option Story
heard_on d nodes None e o = o
heard_on d nodes s None o = o
heard_on d nodes (Some s) (Some e) o =
    if e.to == s.home then heard (parts_of d s) (phase_at s o (nodes s.home)) (nodes s.home) s.number e.from e.message o
    else o

-- the same, behind a past
abbrev pub heard_at : DocumentData → List Act → Option ScriptData → Option Envelope → Option Story → Option Story
heard_at d past s e o = heard_on d (node d past) s e o

-- the story behind a message that is sent: a read request turns to the next holder
abbrev pub asked : DocumentData → TxId → Message → Option Story → Option Story
asked d t (message.ReadReq q) o =
    if_told (q.t == t) (progressed (with_request (length (holders d.cluster.places q.key)))) o
asked d t said o = o

-- the story of t behind one act more, by the messages that were sent and by the nodes
abbrev pub told_on : DocumentData → List Envelope → (NodeId → Node) → Act → TxId → Option Story → Option Story
told_on d ms nodes (act.Began u n sid0) t o = if u == t then Some (begun_in d nodes t sid0) else o
told_on d ms nodes (act.Sent m x y said) t o = asked d t said o
told_on d ms nodes (act.Got m) t o = heard_on d nodes (script_of t d.scripts) (sent_at m ms) o
told_on d ms nodes (act.Taken u j sid v) t o = if_told (u == t) (progressed (with_value j sid v)) o
told_on d ms nodes (act.Finished u) t o = if_told (u == t) (λ x. record x { finished = true }) o
told_on d ms nodes (act.Aborted u n c) t o = if_told (u == t) (λ x. record x { aborted = true }) o
told_on d ms nodes (act.Lost u) t o = if_told (u == t) (λ x. record x { lost = true }) o
told_on d ms nodes (act.Down n h) t o = if_told (is_home d t n) without_answers o
told_on d ms nodes a t o = o

-- the same, behind a past
abbrev pub told : DocumentData → List Act → Act → TxId → Option Story → Option Story
told d past a t o = told_on d (sent past) (node d past) a t o

-- the story of t, or none where it was not begun
abbrev pub story : DocumentData → List Act → TxId → Option Story
story d [] t = None
story d (a ∷ past) t = told d past a t (story d past t)

-- the phase of a script's transaction
abbrev pub phase : DocumentData → List Act → ScriptData → Phase
phase d past s = phase_at s (story d past s.number) (node d past s.home)
