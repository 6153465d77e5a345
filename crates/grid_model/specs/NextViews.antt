-- The view of a node behind an event: what the event and each out that the node gives leave of what it knows.
use Rattle.std.specs.Prelude.{◌≡◌, ℕ, max, Bool, false, ◌&&◌, ◌||◌, ◌==◌, not, IsTrue, List, [], ◌∷◌, length, Option, Some, None, is_none, if◌then◌else◌}
use Rattle.score_base.specs.declared.ids.TxId.{TxId}
use Rattle.score_base.specs.declared.ids.NodeId.{NodeId}
use Rattle.score_base.specs.declared.ids.Ident.{Ident}
use Rattle.score_base.specs.declared.causes.Ballot.TheVariants as ballot
use Rattle.score_base.specs.declared.records.Record.{Record}
use Rattle.score_base.specs.declared.records.Record.TheVariants as record'
use Rattle.script_lang.specs.Scripts.{ScriptData}
use Rattle.script_lang.specs.Reads.{is_update}
use Rattle.placement.specs.Places.{holders}
use Rattle.placement.specs.Clusters.{ClusterData}
use Rattle.grid_model.specs.declared.acts.Act.{Act}
use Rattle.grid_model.specs.declared.acts.Act.TheVariants as act
use Rattle.grid_model.specs.declared.events.Event.{Event}
use Rattle.grid_model.specs.declared.events.Event.TheVariants as event
use Rattle.grid_model.specs.declared.events.Out.{Out}
use Rattle.grid_model.specs.declared.events.Out.TheVariants as out
use Rattle.grid_model.specs.declared.messages.Envelope.{Envelope}
use Rattle.grid_model.specs.declared.messages.Message.{Message}
use Rattle.grid_model.specs.declared.messages.Message.TheVariants as message
use Rattle.grid_model.specs.declared.stories.HeldRead.{HeldRead}
use Rattle.grid_model.specs.declared.stories.Progress.{Progress}
use Rattle.grid_model.specs.declared.stories.Story.{Story}
use Rattle.grid_model.specs.Documents.{DocumentData}
use Rattle.journal_words.specs.Journals.{Decision, undone}
use Rattle.grid_model.specs.Histories.{sent, sent_at}
use Rattle.grid_model.specs.Nodes.{journal, is_home, script_of, prepared_by, held_by, said_by, is_request, written, learnt, with_held, without_read}
use Rattle.grid_model.specs.Stories.{story, with_request, with_value, with_vote, with_node}
use Rattle.grid_model.specs.Views.{View, Open, participant, stage}
use Rattle.grid_model.specs.Advances.{parts_now}
use Rattle.grid_model.specs.Fitness.{counts_vote, counts_ack}
use Rattle.grid_model.specs.Rows.{begun_at}

-- ---- a message that is got

-- an open transaction that came further, where there is one
abbrev pub changed_open : (Progress → Progress) → Option Open → Option Open
changed_open f None = None
changed_open f (Some x) = Some (record x { progress = f x.progress })

-- the desk behind a message: a yes that counts
abbrev pub desk_heard : View → NodeId → Message → TxId → Option Open
desk_heard v x (message.Vote u (ballot.Yes p)) t =
    if (u == t) && counts_vote (participant v) (stage v t) x p then changed_open (with_vote x p) (v.desk t)
    else v.desk t
desk_heard v x said t = v.desk t

-- the acknowledgements behind a message: one that counts
abbrev pub acks_heard : View → NodeId → Message → TxId → List NodeId
acks_heard v x (message.Ack u) t =
    if (u == t) && counts_ack (participant v) (stage v t) x then with_node x (v.acks t) else v.acks t
acks_heard v x said t = v.acks t

-- the view behind a message from x, before the node gives anything
abbrev pub heard_view : View → NodeId → Message → View
heard_view v x said = record v { desk = desk_heard v x said; acks = acks_heard v x said }

-- ---- what it rests on

-- a transaction that began and was not lost
abbrev pub is_running : Option Story → Bool
is_running None = false
is_running (Some x) = not x.lost

-- a standing decision of t at n is of a transaction of n that runs
abbrev pub is_own_decision : DocumentData → List Act → NodeId → TxId → Bool
is_own_decision d past n t = is_none (undone t (journal d past n)) || (is_home d t n && is_running (story d past t))

-- each transaction that is decided and not closed in the journal of n is of home n, began, and was not lost
abbrev pub OwnDecisions : DocumentData → List Act → NodeId → Type 0
OwnDecisions d past n = (t : TxId) → IsTrue (is_own_decision d past n t)

-- ---- an event

-- an event may come to n: a script is one of the document; a message is the one that was sent as m, and
-- the decisions of n are its own
abbrev pub Comes : DocumentData → List Act → NodeId → ℕ → Event → Type 0
Comes d past n m (event.Begin s floor) = script_of s.number d.scripts ≡ Some s
Comes d past n m (event.Deliver x said) =
    (sent_at m (sent past) ≡ Some (record { from = x; to = n; message = said })) × OwnDecisions d past n
Comes d past n m e = Unit {0}

-- the past behind which n gives its outs: a message that is delivered is got first
abbrev pub brought : ℕ → Event → List Act → List Act
brought m (event.Deliver x said) past = act.Got m ∷ past
brought m e past = past

-- ---- an out

-- the message that an event of n delivers
abbrev pub envelope_of : NodeId → Event → Option Envelope
envelope_of n (event.Deliver x said) = Some (record { from = x; to = n; message = said })
envelope_of n e = None

-- the script that an event begins
abbrev pub script_begun : Event → Option ScriptData
script_begun (event.Begin s floor) = Some s
script_begun e = None

-- the Decided of an open transaction, where there is one
abbrev pub decided_by : Option Open → ClusterData → TxId → Ident → Option Record
decided_by None c t f = None
decided_by (Some x) c t f = Some (record'.Decided t f (parts_now c x))

-- the record for which an out of n stands
abbrev pub record_by : Option Envelope → View → Out → Option Record
record_by e v (out.Act (act.Prepared n t p)) = prepared_by e t p
record_by e v (out.Act (act.Ended n t o)) = Some (record'.Ended t o)
record_by e v (out.Act (act.Ceiling n c)) = Some (record'.Ceiling c)
record_by e v (out.Act (act.Decided t f)) = decided_by (v.desk t) v.cluster t f
record_by e v (out.Act (act.Closed t)) = Some (record'.Closed t)
record_by e v o = None

-- the clock behind an out
abbrev pub next_behind : Option Envelope → View → Out → Ident
next_behind e v (out.Act (act.Raised n sid)) = max sid v.next
next_behind e v o = learnt (record_by e v o) v.next

-- the held reads behind an out: a read that is served behind another message was held
abbrev pub held_behind : Option Envelope → List HeldRead → Out → List HeldRead
held_behind e hs (out.Act (act.Held n t op sid)) = with_held (held_by e t op sid) hs
held_behind e hs (out.Act (act.Served n t op k sid vn v)) =
    if is_request (said_by e) then hs else without_read t op k sid hs
held_behind e hs o = hs

-- the transaction that a script opens where no Decided of it stands open
abbrev pub opened_by : Option Decision → Option ScriptData → Ident → Option Open
opened_by y None sid0 = None
opened_by None (Some s) sid0 = Some (begun_at s sid0)
opened_by (Some y) (Some s) sid0 = None

-- an update is open until it is decided or aborted
abbrev pub if_update : Option Open → Option Open
if_update None = None
if_update (Some x) = if is_update x.script.ops then Some x else None

-- the desk behind an out: a transaction is opened, changed, or gone
abbrev pub desk_behind : Option ScriptData → View → Out → TxId → Option Open
desk_behind s v (out.Act (act.Began u n sid0)) t = if u == t then opened_by (undone t v.journal) s sid0 else v.desk t
desk_behind s v (out.Act (act.Taken u j sid w)) t =
    if u == t then changed_open (with_value j sid w) (v.desk t) else v.desk t
desk_behind s v (out.Act (act.Finished u)) t = if u == t then if_update (v.desk t) else v.desk t
desk_behind s v (out.Act (act.Aborted u n why)) t = if u == t then None else v.desk t
desk_behind s v (out.Act (act.Decided u f)) t = if u == t then None else v.desk t
desk_behind s v (out.Send to (message.ReadReq q)) t =
    if q.t == t then changed_open (with_request (length (holders v.cluster.places q.key))) (v.desk t) else v.desk t
desk_behind s v o t = v.desk t

-- the acknowledgements behind an out: none of a transaction that begins, is decided or is closed
abbrev pub acks_behind : View → Out → TxId → List NodeId
acks_behind v (out.Act (act.Began u n sid0)) t = if u == t then [] else v.acks t
acks_behind v (out.Act (act.Decided u f)) t = if u == t then [] else v.acks t
acks_behind v (out.Act (act.Closed u)) t = if u == t then [] else v.acks t
acks_behind v o t = v.acks t

-- the view behind an out, in an event that delivers this message or begins this script
abbrev pub behind : Option Envelope → Option ScriptData → View → Out → View
behind e s v o =
    record {
      cluster = v.cluster;
      journal = written (record_by e v o) v.journal;
      next = next_behind e v o;
      held = held_behind e v.held o;
      desk = desk_behind s v o;
      acks = acks_behind v o;
    }

-- the view behind these outs
abbrev pub behind_all : Option Envelope → Option ScriptData → View → List Out → View
behind_all e s v [] = v
behind_all e s v (o ∷ os) = behind_all e s (behind e s v o) os

-- the view behind what an event brings, before n gives anything
abbrev pub view_heard : View → Event → View
view_heard v (event.Deliver x said) = heard_view v x said
view_heard v e = v

-- the view of n behind an event to which it gives these outs, all of whose records are kept
abbrev pub next_view : NodeId → View → Event → List Out → View
next_view n v e os = behind_all (envelope_of n e) (script_begun e) (view_heard v e) os
