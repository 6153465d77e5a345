-- What stands behind every message, record, decision and promise of a lawful run.
use Rattle.std.specs.Prelude.{◌≡◌, ◌≢◌, ◌≤◌, ◌<◌, ℕ, ◌*◌, max, Bool, true, false, ◌&&◌, ◌||◌, ◌==◌, nat_lt, IsTrue, List, [], ◌∷◌, ◌++◌, Option, Some, None, is_some, if◌then◌else◌}
use Rattle.std.specs.List.{list_all}
use Rattle.score_base.specs.declared.ids.TxId.{TxId}
use Rattle.score_base.specs.declared.ids.NodeId.{NodeId}
use Rattle.score_base.specs.declared.ids.Ident.{Ident}
use Rattle.score_base.specs.declared.ids.Value.{Value}
use Rattle.score_base.specs.declared.keys.Key.{Key}
use Rattle.score_base.specs.declared.causes.Ballot.TheVariants as ballot
use Rattle.score_base.specs.declared.causes.Cause.{Cause}
use Rattle.score_base.specs.declared.causes.Cause.TheVariants as cause
use Rattle.score_base.specs.declared.causes.Outcome.{Outcome}
use Rattle.score_base.specs.declared.causes.Outcome.TheVariants as outcome
use Rattle.score_base.specs.declared.records.Record.{Record}
use Rattle.script_lang.specs.Scripts.{ScriptData}
use Rattle.placement.specs.Places.{is_among}
use Rattle.grid_model.specs.declared.acts.Act.{Act}
use Rattle.grid_model.specs.declared.acts.Act.TheVariants as act
use Rattle.grid_model.specs.declared.acts.Head.{Head}
use Rattle.grid_model.specs.declared.acts.Head.TheVariants as head
use Rattle.grid_model.specs.declared.messages.Envelope.{Envelope}
use Rattle.grid_model.specs.declared.messages.Message.{Message}
use Rattle.grid_model.specs.declared.messages.Prepare.{Prepare}
use Rattle.grid_model.specs.declared.messages.Message.TheVariants as message
use Rattle.grid_model.specs.Documents.{DocumentData}
use Rattle.grid_model.specs.Histories.{after, sent, sent_at}
use Rattle.journal_words.specs.Journals.{prepared_of, floor, is_clear, is_locking, commit_id, has_prepared, has_decided, has_commit, are_apart, all_fit}
use Rattle.grid_model.specs.Nodes.{journal, is_home, script_of, parts_in, node, found}
use Rattle.grid_model.specs.Views.{view}
use Rattle.grid_model.specs.Fitness.{is_fit, is_fit_begin, date_ident}
use Rattle.grid_model.specs.Acts.{EachAct, EachBehind, EachSent, has_refused}
use Rattle.grid_model.specs.Copies.{snapshot}
use Rattle.grid_model.specs.Sessions.{floor_at}

-- ---- words

-- the journals of all nodes, of which one is the home of t, have a Decided of t with f
abbrev pub IsDecided : DocumentData → List Act → TxId → Ident → Type 0
IsDecided d past t f = (n : NodeId) × IsTrue (is_home d t n) × IsTrue (has_decided t f (journal d past n))

-- n served this read
abbrev pub has_served : NodeId → TxId → ℕ → Ident → Value → List Act → Bool
has_served n t j sid v [] = false
has_served n t j sid v (act.Served m u i k s vn w ∷ past) =
    (m == n && (u == t && (i == j && (s == sid && w == v)))) || has_served n t j sid v past
has_served n t j sid v (a ∷ past) = has_served n t j sid v past

-- t was given up: aborted, or lost with its home
abbrev pub is_given_up : TxId → List Act → Bool
is_given_up t [] = false
is_given_up t (act.Aborted u n why ∷ past) = (u == t) || is_given_up t past
is_given_up t (act.Lost u ∷ past) = (u == t) || is_given_up t past
is_given_up t (a ∷ past) = is_given_up t past

-- the parts of t by the document
abbrev pub parts_at : DocumentData → TxId → List NodeId
parts_at d t = parts_in d (script_of t d.scripts)

-- t has a script, and every part of it has ended it with commit
abbrev pub is_over : DocumentData → List Act → TxId → Bool
is_over d past t = is_some (script_of t d.scripts) && list_all (λ n. has_commit t (journal d past n)) (parts_at d t)

-- ---- the records that stand, and the record in doubt

-- the records that an opening of n would leave: those that stand, with the record in doubt behind them where
-- it was kept. A node that is up has none in doubt.
abbrev pub records_at : DocumentData → List Act → Bool → NodeId → List Record
records_at d past kept n = found kept (node d past n).doubt (journal d past n)

-- each record of each node fits those before it, and so does the record in doubt
abbrev pub RecordsFit : DocumentData → List Act → Type 0
RecordsFit d past = (kept : Bool) (n : NodeId) → IsTrue (all_fit d.cluster n (records_at d past kept n))

-- a node that is up has no record in doubt
abbrev pub UpSettled : DocumentData → List Act → Type 0
UpSettled d past = (n : NodeId) → IsTrue (node d past n).up → (node d past n).doubt ≡ None

-- ---- messages are backed by records

-- what a message that n sent says stands in an act, or in these records of the nodes
abbrev pub SaysIn : DocumentData → List Act → (NodeId → List Record) → NodeId → Message → Type 0
SaysIn d past records n (message.Vote t (ballot.Yes p)) = IsTrue (has_prepared t p (records n))
SaysIn d past records n (message.Vote t (ballot.No why)) = IsTrue (has_refused n t why past)
SaysIn d past records n (message.Tell t (outcome.Commit f)) =
    (home : NodeId) × IsTrue (is_home d t home) × IsTrue (has_decided t f (records home))
SaysIn d past records n (message.Ack t) = IsTrue (has_commit t (records n))
SaysIn d past records n (message.ReadRep q) = IsTrue (has_served n q.t q.op q.sid q.value past)
SaysIn d past records n said = Unit {0}

-- what a message that n sent says stands in a journal or an act
abbrev pub Says : DocumentData → List Act → NodeId → Message → Type 0
Says d past = SaysIn d past (journal d past)

-- each vote, commit, acknowledgement and read reply that was sent is backed
abbrev pub MessagesBacked : DocumentData → List Act → Type 0
MessagesBacked d past = (kept : Bool) → EachSent (SaysIn d past (records_at d past kept)) past

-- ---- an abort is told only of a transaction that is given up, or that every part has ended with commit

-- a message that n sent which tells an abort: its transaction is given up or over
abbrev pub MeansNever : DocumentData → List Act → NodeId → Message → Type 0
MeansNever d past n (message.Tell t outcome.Abort) = IsTrue (is_given_up t past || is_over d past t)
MeansNever d past n said = Unit {0}

-- a transaction of which an abort was told is given up, or every part has ended it with commit
abbrev pub AbortsFinal : DocumentData → List Act → Type 0
AbortsFinal d past = EachSent (MeansNever d past) past

-- ---- a served read is promised

-- every proposal that n made in these acts is above sid, those in whose record it stopped too
abbrev pub are_above : NodeId → Ident → List Act → Bool
are_above n sid [] = true
are_above n sid (act.Prepared m t p ∷ past) = (if m == n then nat_lt sid p else true) && are_above n sid past
are_above n sid (act.Down m (Some (head.Prepared t p)) ∷ past) =
    (if m == n then nat_lt sid p else true) && are_above n sid past
are_above n sid (a ∷ past) = are_above n sid past

-- a read that n served at sid: the floor covers it, nothing pending is at most sid, and each later
-- proposal of n is above it
pub record IsPromised (d : DocumentData) (past : List Act) (n : NodeId) (sid : Ident) (later : List Act) : Type 0 where
  pub floor : (kept : Bool) → sid ≤ floor (records_at d past kept n)
  pub clear : (kept : Bool) → IsTrue (is_clear sid (records_at d past kept n))
  pub behind : IsTrue (are_above n sid later)

-- each read that was served is promised
abbrev pub ServedPromised : DocumentData → List Act → Type 0
ServedPromised d past =
    (n : NodeId) (t : TxId) (j : ℕ) (k : Key) (sid vn : Ident) (v : Value) (later before : List Act) →
    past ≡ later ++ act.Served n t j k sid vn v ∷ before → IsPromised d past n sid later

-- ---- locks exclude conflicts

-- two transactions that are pending, or ended with commit and not applied, at one node share no key
-- there that one of them writes
abbrev pub LocksExclude : DocumentData → List Act → Type 0
LocksExclude d past =
    (kept : Bool) (n : NodeId) (t u : TxId) → t ≢ u →
    IsTrue (is_locking t (records_at d past kept n)) → IsTrue (is_locking u (records_at d past kept n)) →
    IsTrue (are_apart (prepared_of t (records_at d past kept n)) (prepared_of u (records_at d past kept n)))

-- ---- a decision rests on every part

-- a decision of t with f at its home n: each part has its Prepared, f is the greatest of the proposals,
-- and it is above the snapshot identifier of t
pub record RestsOnParts (d : DocumentData) (past : List Act) (t : TxId) (f : Ident) : Type 0 where
  pub each : (n : NodeId) → IsTrue (is_among n (parts_at d t))
      → (p : Ident) × IsTrue (has_prepared t p (journal d past n)) × (p ≤ f)
  pub reached : (n : NodeId) × IsTrue (is_among n (parts_at d t)) × IsTrue (has_prepared t f (journal d past n))
  pub fresh : snapshot d past t < f

-- each decision that stands, or is in doubt, rests on every part of its transaction
abbrev pub DecisionsRest : DocumentData → List Act → Type 0
DecisionsRest d past =
    (kept : Bool) (n : NodeId) (t : TxId) (f : Ident) → IsTrue (has_decided t f (records_at d past kept n)) →
    IsTrue (is_home d t n) × RestsOnParts d past t f

-- ---- Prepares

-- message m is this Prepare, from x to n
abbrev pub IsPrepareSent : List Act → ℕ → NodeId → NodeId → Prepare → Type 0
IsPrepareSent past m x n q = sent_at m (sent past) ≡ Some (record { from = x; to = n; message = message.Prepare q })

-- all Prepares of a transaction to one node come from one node and say the same
abbrev pub PreparesAgree : List Act → Type 0
PreparesAgree past =
    (m k : ℕ) (x y n : NodeId) (q p : Prepare) →
    IsPrepareSent past m x n q → IsPrepareSent past k y n p → q.t ≡ p.t → (x ≡ y) × (q ≡ p)

-- ---- every delivered message is fit

-- there is a message, and it is fit at its receiver behind this past
abbrev pub IsFitAt : DocumentData → List Act → Option Envelope → Type 0
IsFitAt d past None = ⊥
IsFitAt d past (Some e) = IsTrue (is_fit e.to (view d past e.to) e.from e.message)

-- an act that gets a message gets a fit one
abbrev pub GotIsFit : DocumentData → Act → List Act → Type 0
GotIsFit d (act.Got m) past = IsFitAt d past (sent_at m (sent past))
GotIsFit d a past = Unit {0}

-- each message that was got was fit where it was got
abbrev pub AllFit : DocumentData → List Act → Type 0
AllFit d past = EachBehind (GotIsFit d) past

-- there is a script, and its begin is fit at n behind this past
abbrev pub IsFitBegin : DocumentData → List Act → NodeId → Option ScriptData → Type 0
IsFitBegin d past n None = ⊥
IsFitBegin d past n (Some s) = IsTrue (is_fit_begin n (view d past n) s (floor_at d past s))

-- an act that begins a transaction is a fit begin
abbrev pub BeganIsFit : DocumentData → Act → List Act → Type 0
BeganIsFit d (act.Began t n sid0) past = IsFitBegin d past n (script_of t d.scripts)
BeganIsFit d a past = Unit {0}

-- each transaction that began was fit to begin where it began
abbrev pub BeginsFit : DocumentData → List Act → Type 0
BeginsFit d past = EachBehind (BeganIsFit d) past

-- ---- reads that are never held, and identifiers

-- an act that holds a read holds one above the commit identifier
abbrev pub HeldIsAbove : DocumentData → Act → List Act → Type 0
HeldIsAbove d (act.Held n t j sid) past = commit_id (journal d past n) < sid
HeldIsAbove d a past = Unit {0}

-- a read at or below the commit identifier of a node is never held
abbrev pub NeverHeldBelow : DocumentData → List Act → Type 0
NeverHeldBelow d past = EachBehind (HeldIsAbove d) past

-- the final identifier of an outcome, or 0
abbrev pub outcome_ident : Outcome → Ident
outcome_ident (outcome.Commit f) = f
outcome_ident outcome.Abort = 0

-- the identifier of a cause, or 0
abbrev pub cause_ident : Cause → Ident
cause_ident (cause.Holder u) = 0
cause_ident (cause.Newer k f) = f

-- the greatest identifier that a message names, or 0
abbrev pub message_ident : Message → Ident
message_ident (message.ReadReq q) = date_ident q.date
message_ident (message.ReadRep q) = q.sid
message_ident (message.Prepare q) = q.sid
message_ident (message.Vote t (ballot.Yes p)) = p
message_ident (message.Vote t (ballot.No why)) = cause_ident why
message_ident (message.Tell t o) = outcome_ident o
message_ident said = 0

-- the identifier of the head of a record, or 0
abbrev pub head_ident : Option Head → Ident
head_ident (Some (head.Prepared t p)) = p
head_ident (Some (head.Ended t o)) = outcome_ident o
head_ident (Some (head.Ceiling c)) = c
head_ident (Some (head.Decided t f)) = f
head_ident (Some (head.Closed t)) = 0
head_ident (Some head.Compact) = 0
head_ident None = 0

-- the greatest identifier that an act names
abbrev pub act_ident : Act → Ident
act_ident (act.Began t n sid0) = sid0
act_ident (act.Sent m x y said) = message_ident said
act_ident (act.Raised n sid) = sid
act_ident (act.Served n t j k sid vn v) = max sid vn
act_ident (act.Held n t j sid) = sid
act_ident (act.Taken t j sid v) = sid
act_ident (act.Prepared n t p) = p
act_ident (act.Refused n t why) = cause_ident why
act_ident (act.Ended n t o) = outcome_ident o
act_ident (act.Ceiling n c) = c
act_ident (act.Decided t f) = f
act_ident (act.Aborted t n why) = cause_ident why
act_ident (act.Down n h) = head_ident h
act_ident a = 0

-- no identifier that an act names is above this
abbrev pub IsAtMost : Ident → Act → Type 0
IsAtMost most a = act_ident a ≤ most

-- no identifier in these acts is above 64 for each of e events
abbrev pub IdentifiersBelow : ℕ → List Act → Type 0
IdentifiersBelow e past = EachAct (IsAtMost (64 * e)) past

-- ---- the facts together

-- the facts on which one copy rests, of acts in the order of time
pub record Facts (d : DocumentData) (h : List Act) : Type 0 where
  pub records : RecordsFit d (after [] h)
  pub messages : MessagesBacked d (after [] h)
  pub aborts : AbortsFinal d (after [] h)
  pub reads : ServedPromised d (after [] h)
  pub locks : LocksExclude d (after [] h)
  pub decisions : DecisionsRest d (after [] h)
  pub held : NeverHeldBelow d (after [] h)

-- every message that is delivered is fit, of acts in the order of time
abbrev pub DeliveredFit : DocumentData → List Act → Type 0
DeliveredFit d h = AllFit d (after [] h)
