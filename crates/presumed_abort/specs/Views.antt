-- How a desk meets the view of its node, and when a turn is the row of an event on that view.
use Rattle.std.specs.Prelude.{◌≡◌, Bool, true, false, List, [], Option, Some, None}
use Rattle.score_base.specs.declared.ids.TxId.{TxId}
use Rattle.score_base.specs.declared.ids.NodeId.{NodeId}
use Rattle.score_base.specs.declared.records.Record.{Record}
use Rattle.placement.specs.Clusters.{ClusterData}
use Rattle.journal_words.specs.Journals.{Decision, undone, floor}
use Rattle.grid_model.specs.declared.events.Event.{Event}
use Rattle.grid_model.specs.declared.events.Event.TheVariants as event
use Rattle.grid_model.specs.declared.messages.Message.{Message}
use Rattle.grid_model.specs.declared.messages.Message.TheVariants as message
use Rattle.grid_model.specs.Nodes.{written, learnt}
use Rattle.grid_model.specs.Views.{View, Open, Stage, Apart, Reads, Collects, Commits, stage}
use Rattle.grid_model.specs.Advances.{parts_now}
use Rattle.grid_model.specs.Rows.{outs_of}
use Rattle.grid_model.specs.NextViews.{next_view}
use Rattle.presumed_abort.specs.declared.stands.Stand.{Stand}
use Rattle.presumed_abort.specs.declared.stands.Stand.TheVariants as stand
use Rattle.presumed_abort.specs.Stands.{standing}
use Rattle.presumed_abort.specs.Turns.{Turn, changed}

-- what a desk keeps of a transaction at this stage: a collecting one with the parts of its script
abbrev pub kept : ClusterData → TxId → Stage → Option Stand
kept c t (Reads x j) = Some (stand.Reading (record { tx = x; op = j }))
kept c t (Collects x) = Some (stand.Collecting (record { t = t; tx = x; parts = parts_now c x }))
kept c t (Commits y acks) = Some (stand.Committed (record { t = t; f = y.final; parts = y.parts; acks = acks }))
kept c t Apart = None

-- what a desk keeps of t, by the view
abbrev pub desk_of : View → TxId → Option Stand
desk_of v t = kept v.cluster t (stage v t)

-- the desk is that of the view
abbrev pub IsDeskOf : View → List (TxId × Stand) → Type 0
IsDeskOf v desk = standing desk ≡ desk_of v

-- a transaction that is decided in the view is not open there besides
abbrev pub AreApart : View → Type 0
AreApart v = (t : TxId) (y : Decision) → undone t v.journal ≡ Some y → v.desk t ≡ None

-- each open transaction of the view has its own number
abbrev pub OwnNumbers : View → Type 0
OwnNumbers v = (t : TxId) (o : Open) → v.desk t ≡ Some o → o.script.number ≡ t

-- The turn x of t is the row of this event at n on the view v, whose desk this is: it gives the outs of the
-- row, with its record, leaves the desk of the next view, and changes nothing else.
pub record IsRow (n : NodeId) (v : View) (desk : List (TxId × Stand)) (e : Event) (t : TxId) (x : Turn) : Type 0 where
  pub outs_are : x.outs ≡ outs_of n v e
  pub cluster : (next_view n v e (outs_of n v e)).cluster ≡ v.cluster
  pub journal : (next_view n v e (outs_of n v e)).journal ≡ written x.rec v.journal
  pub next : (next_view n v e (outs_of n v e)).next ≡ learnt x.rec v.next
  pub held : (next_view n v e (outs_of n v e)).held ≡ v.held
  pub desk_is : IsDeskOf (next_view n v e (outs_of n v e)) (changed t x.change desk)

-- the message comes to a home: a read reply, a vote, an acknowledgement or a question
abbrev pub is_for_home : Message → Bool
is_for_home (message.ReadRep q) = true
is_for_home (message.Vote t b) = true
is_for_home (message.Ack t) = true
is_for_home (message.Ask t) = true
is_for_home said = false

-- the event comes to a desk: a begin, a message that comes to a home, or a retry
abbrev pub is_at_desk : Event → Bool
is_at_desk (event.Begin s floor) = true
is_at_desk (event.Deliver x said) = is_for_home said
is_at_desk (event.Retry t) = true
is_at_desk e = false

-- the view of a node that has just been opened on these records, the newest first: no transaction is open,
-- nothing is acknowledged, no read is held, and the clock is at the floor
abbrev pub opened_view : ClusterData → List Record → View
opened_view c r =
    record { cluster = c; journal = r; next = floor r; held = []; desk = λ t. None; acks = λ t. [] }
