-- The rows of a schedule's items, behind a history: which acts an event has, by what its disks do.
use Rattle.std.specs.Prelude.{ℕ, ◌+◌, zero, suc, Bool, true, false, ◌&&◌, ◌==◌, not, map, replicate, List, [], ◌∷◌, length, Option, Some, None, is_some, if◌then◌else◌}
use Rattle.std.specs.List.{range_with_len, flat_map}
use Rattle.score_base.specs.declared.ids.TxId.{TxId}
use Rattle.score_base.specs.declared.ids.NodeId.{NodeId}
use Rattle.score_base.specs.declared.records.Record.{Record}
use Rattle.script_lang.specs.Scripts.{ScriptData}
use Rattle.grid_model.specs.declared.acts.Act.{Act}
use Rattle.grid_model.specs.declared.acts.Act.TheVariants as act
use Rattle.grid_model.specs.declared.acts.Flag.{Flag}
use Rattle.grid_model.specs.declared.acts.Flag.TheVariants as flag
use Rattle.grid_model.specs.declared.acts.Head.{Head}
use Rattle.grid_model.specs.declared.acts.Head.TheVariants as head
use Rattle.grid_model.specs.declared.events.Out.{Out}
use Rattle.grid_model.specs.declared.events.Out.TheVariants as out
use Rattle.grid_model.specs.declared.items.Item.{Item}
use Rattle.grid_model.specs.declared.items.Item.TheVariants as item
use Rattle.grid_model.specs.declared.messages.Envelope.{Envelope}
use Rattle.grid_model.specs.declared.stories.Story.{Story}
use Rattle.grid_model.specs.declared.voids.Void.TheVariants as void
use Rattle.grid_model.specs.Documents.{DocumentData, number_order, script_numbers}
use Rattle.journal_words.specs.Journals.{pending}
use Rattle.grid_model.specs.Histories.{sent, sent_at, is_gone}
use Rattle.grid_model.specs.Nodes.{script_of}
use Rattle.grid_model.specs.Stories.{is_open}
use Rattle.grid_model.specs.Rows.{answer, begin_outs, retry_outs, ask_outs, ask_peer_outs, compact_outs}
use Rattle.grid_model.specs.Views.{participant, stage}
use Rattle.grid_model.specs.Voids.{void_code, voided}
use Rattle.grid_model.specs.Sessions.{session_floor, is_busy}
use Rattle.grid_model.specs.States.{State, state_of, state_behind, view_in, phase_on}

-- ---- numbers and records

-- the acts of node n with these outs, where the next message to be sent has number m
abbrev pub numbered : ℕ → NodeId → List Out → List Act
numbered m n [] = []
numbered m n (out.Act a ∷ os) = a ∷ numbered m n os
numbered m n (out.Send to said ∷ os) = act.Sent m n to said ∷ numbered (m + 1) n os

-- the head of the record for which an act stands, or of the compaction that it is
abbrev pub head_of : Act → Option Head
head_of (act.Prepared n t p) = Some (head.Prepared t p)
head_of (act.Ended n t o) = Some (head.Ended t o)
head_of (act.Ceiling n c) = Some (head.Ceiling c)
head_of (act.Decided t f) = Some (head.Decided t f)
head_of (act.Closed t) = Some (head.Closed t)
head_of (act.Compacted n) = Some head.Compact
head_of a = None

-- the same of an out
abbrev pub head_at : Out → Option Head
head_at (out.Act a) = head_of a
head_at (out.Send to said) = None

-- an out whose record or compaction fails is a Down, and ends the row
abbrev pub stopped : NodeId → Option Head → Out → List Out → List Out
stopped n None o rest = o ∷ rest
stopped n (Some h) o rest = out.Act (act.Down n (Some h)) ∷ []

-- these outs of node n where its disk fails: the node goes down in place of the first act that writes
abbrev pub broken : NodeId → List Out → List Out
broken n [] = []
broken n (o ∷ os) = stopped n (head_at o) o (broken n os)

-- these outs of node n, whose disk keeps what is written or fails
abbrev pub kept : Bool → NodeId → List Out → List Out
kept true n os = os
kept false n os = broken n os

-- ---- the free choices

-- what the disks do in an event: a record that is written is kept, or a compaction goes on; a node that is
-- opened comes up; a record or a compaction in doubt is found
pub record Choice : Type 0 where
  pub keeps : Bool
  pub opens : Bool
  pub finds : Bool

-- ---- the words of the schedule

-- the number of the next message
abbrev pub next_in : State → ℕ
next_in st = length st.sent + 1

-- the first of count numbers from m on that is not gone
abbrev pub first_in : (ℕ → Bool) → ℕ → ℕ → Option ℕ
first_in gone m zero = None
first_in gone m (suc count) = if gone m then first_in gone (m + 1) count else Some m

-- the least-numbered message that was neither got, missed nor dropped
abbrev pub left_in : State → Option ℕ
left_in st = first_in st.gone 1 (length st.sent)

-- ---- the rows on a state

-- the acts of an event of node n with these outs, behind its first acts
abbrev pub acts_on : State → Choice → NodeId → List Out → List Act
acts_on st c n os = numbered (next_in st) n (kept c.keeps n os)

-- the begin of a script, where there is one: code 2 where its home is down, code 9 where its session is
-- busy
abbrev pub begun_on : DocumentData → State → Choice → Option ScriptData → List Act
begun_on d st c None = []
begun_on d st c (Some s) =
    if not (st.nodes s.home).up then voided void.HomeDown else
    (if is_busy d st s.session then voided void.SessionBusy
    else acts_on st c s.home (begin_outs s.home (participant (view_in d st s.home)) s (session_floor d st s.session)))

-- `begin t`: code 1 where it was begun before, else as above
abbrev pub begin_on : DocumentData → State → Choice → Option Story → Option ScriptData → List Act
begin_on d st c (Some x) s = voided void.Begun
begin_on d st c None s = begun_on d st c s

-- `deliver m`: code 3 where it was not sent yet; missed where its receiver is down
abbrev pub deliver_on : DocumentData → State → Choice → ℕ → Option Envelope → List Act
deliver_on d st c m None = voided void.NotSent
deliver_on d st c m (Some e) =
    if (st.nodes e.to).up
    then act.Got m ∷ acts_on st c e.to (answer e.to (view_in d st e.to) e.from e.message)
    else act.Missed m ∷ []

-- `drop m`: code 3 where it was not sent yet
abbrev pub drop_row : ℕ → Option Envelope → List Act
drop_row m None = voided void.NotSent
drop_row m (Some e) = act.Dropped m ∷ []

-- one event of `next`: code 4 where no message is left
abbrev pub next_on : DocumentData → State → Choice → Option ℕ → List Act
next_on d st c None = voided void.NoneLeft
next_on d st c (Some m) = deliver_on d st c m (sent_at m st.sent)

-- a code where there are no outs
abbrev pub or_void : ℕ → List Out → List Act → List Act
or_void code [] acts = act.Void code ∷ []
or_void code (o ∷ os) acts = acts

-- `retry t`: code 2 where its home is down, code 5 where nothing is outstanding
abbrev pub retry_on : DocumentData → State → Choice → TxId → Option ScriptData → List Act
retry_on d st c t None = []
retry_on d st c t (Some s) =
    if (st.nodes s.home).up
    then (let os : List Out = retry_outs d.cluster t (stage (view_in d st s.home) t) in
    or_void (void_code void.NothingOwed) os (acts_on st c s.home os))
    else voided void.HomeDown

-- `ask n t`: code 6 where n is down, or t is not pending at n
abbrev pub ask_on : DocumentData → State → Choice → NodeId → TxId → List Act
ask_on d st c n t =
    if (st.nodes n).up
    then (let os : List Out = ask_outs (participant (view_in d st n)) t in
    or_void (void_code void.NotPending) os (acts_on st c n os))
    else voided void.NotPending

-- `ask n t m`: code 6 where n is down, or t is not pending at n, code 10 where m is no part of t
abbrev pub ask_peer_on : DocumentData → State → Choice → NodeId → TxId → NodeId → List Act
ask_peer_on d st c n t m =
    if not (st.nodes n).up then voided void.NotPending else
    (if not (is_some (pending t (st.nodes n).journal)) then voided void.NotPending
    else (let os : List Out = ask_peer_outs (participant (view_in d st n)) t m in
    or_void (void_code void.NotPart) os (acts_on st c n os)))

-- `crash n`: code 7 where n is down already
abbrev pub crash_on : State → NodeId → List Act
crash_on st n = if (st.nodes n).up then act.Down n None ∷ [] else voided void.IsDown

-- what an opening says of the record in doubt
abbrev pub flag_of : Option Record → Bool → Flag
flag_of None finds = flag.Untouched
flag_of (Some x) true = flag.Kept
flag_of (Some x) false = flag.Gone

-- the same where a compaction or else this record is in doubt: a compaction was found, or it was not
abbrev pub flag_at : Bool → Option Record → Bool → Flag
flag_at true o true = flag.Kept
flag_at true o false = flag.Gone
flag_at false o finds = flag_of o finds

-- the loss of a script's transaction, where it is an open one of home n
abbrev pub lost_on : State → NodeId → Option ScriptData → List Act
lost_on st n None = []
lost_on st n (Some s) = if (s.home == n) && is_open (phase_on st s) then act.Lost s.number ∷ [] else []

-- the transactions of home n that are reading or collecting are lost, in rising number
abbrev pub losses_on : DocumentData → State → NodeId → List Act
losses_on d st n = flat_map (λ t. lost_on st n (script_of t d.scripts)) (number_order (script_numbers d.scripts))

-- a node that is opened: it comes up, and its transactions that are open behind this are lost
abbrev pub opened_on : DocumentData → State → NodeId → Flag → List Act
opened_on d st n f = act.Up n f ∷ losses_on d (state_behind d st (act.Up n f)) n

-- `restart n`: code 8 where n is up already
abbrev pub restart_on : DocumentData → State → Choice → NodeId → List Act
restart_on d st c n =
    if (st.nodes n).up then voided void.IsUp else
    (if c.opens then opened_on d st n (flag_at (st.compacting n) (st.nodes n).doubt c.finds) else act.StillDown n ∷ [])

-- `compact n`: code 11 where n is down
abbrev pub compact_on : State → Choice → NodeId → List Act
compact_on st c n = if (st.nodes n).up then acts_on st c n (compact_outs n) else voided void.NotUp

-- the row of an item that is one event, on a state; of `next`, one event
abbrev pub row_on : DocumentData → State → Item → Choice → List Act
row_on d st (item.Begin t) c = begin_on d st c (st.stories t) (script_of t d.scripts)
row_on d st (item.Deliver m) c = deliver_on d st c m (sent_at m st.sent)
row_on d st (item.Drop m) c = drop_row m (sent_at m st.sent)
row_on d st (item.Next k) c = next_on d st c (left_in st)
row_on d st (item.Retry t) c = retry_on d st c t (script_of t d.scripts)
row_on d st (item.Ask n t) c = ask_on d st c n t
row_on d st (item.AskPeer n t m) c = ask_peer_on d st c n t m
row_on d st (item.Crash n how) c = crash_on st n
row_on d st (item.Fuse n k how) c = act.Armed n k how ∷ []
row_on d st (item.Restart n) c = restart_on d st c n
row_on d st (item.Compact n) c = compact_on st c n

-- ---- the rows behind a past

abbrev pub next_number : List Act → ℕ
next_number past = length (sent past) + 1

abbrev pub first_left : List Act → ℕ → ℕ → Option ℕ
first_left past m count = first_in (is_gone past) m count

abbrev pub next_left : List Act → Option ℕ
next_left past = first_left past 1 (length (sent past))

abbrev pub acts_of : List Act → Choice → NodeId → List Out → List Act
acts_of past c n os = numbered (next_number past) n (kept c.keeps n os)

abbrev pub begin_at : DocumentData → List Act → Choice → Option ScriptData → List Act
begin_at d past c s = begun_on d (state_of d past) c s

abbrev pub begin_row : DocumentData → List Act → Choice → Option Story → Option ScriptData → List Act
begin_row d past c x s = begin_on d (state_of d past) c x s

abbrev pub deliver_row : DocumentData → List Act → Choice → ℕ → Option Envelope → List Act
deliver_row d past c m e = deliver_on d (state_of d past) c m e

abbrev pub next_row : DocumentData → List Act → Choice → Option ℕ → List Act
next_row d past c m = next_on d (state_of d past) c m

abbrev pub retry_row : DocumentData → List Act → Choice → TxId → Option ScriptData → List Act
retry_row d past c t s = retry_on d (state_of d past) c t s

abbrev pub ask_row : DocumentData → List Act → Choice → NodeId → TxId → List Act
ask_row d past c n t = ask_on d (state_of d past) c n t

abbrev pub ask_peer_row : DocumentData → List Act → Choice → NodeId → TxId → NodeId → List Act
ask_peer_row d past c n t m = ask_peer_on d (state_of d past) c n t m

abbrev pub crash_row : DocumentData → List Act → NodeId → List Act
crash_row d past n = crash_on (state_of d past) n

abbrev pub lost_at : DocumentData → List Act → NodeId → Option ScriptData → List Act
lost_at d past n s = lost_on (state_of d past) n s

abbrev pub losses : DocumentData → List Act → NodeId → List Act
losses d past n = losses_on d (state_of d past) n

abbrev pub opened_row : DocumentData → List Act → NodeId → Flag → List Act
opened_row d past n f = opened_on d (state_of d past) n f

abbrev pub restart_row : DocumentData → List Act → Choice → NodeId → List Act
restart_row d past c n = restart_on d (state_of d past) c n

abbrev pub compact_row : DocumentData → List Act → Choice → NodeId → List Act
compact_row d past c n = compact_on (state_of d past) c n

-- the row of an item that is one event, behind a past
abbrev pub row : DocumentData → List Act → Item → Choice → List Act
row d past i c = row_on d (state_of d past) i c

-- ---- the start, and the events of the items

-- a node that comes up, or whose disk failed
abbrev pub start_act : (NodeId → Bool) → NodeId → Act
start_act opens n = if opens n then act.Up n flag.Untouched else act.StillDown n

-- the start: each node is opened, in rising order
abbrev pub start_row : ℕ → (NodeId → Bool) → List Act
start_row nodes opens = map (start_act opens) (range_with_len 1 nodes)

-- the events of an item: those of `next c` are c, each of the others is one
abbrev pub events_in : Item → List Item
events_in (item.Next c) = replicate c (item.Next 1)
events_in i = i ∷ []
