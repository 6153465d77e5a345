-- What the changes of a typed state make of its transaction.
use Rattle.std.specs.Prelude.{◌≡◌, Some, None}
use Rattle.score_base.specs.declared.records.Record.{Record}
use Rattle.journal_records.specs.Records.{CanEncode}
use Rattle.presumed_abort.specs.declared.states.Ready.{Ready}
use Rattle.presumed_abort.specs.declared.states.Closing.{Closing}
use Rattle.presumed_abort.specs.declared.stands.Stand.TheVariants as stand
use Rattle.presumed_abort.specs.declared.turns.Then.{Then}
use Rattle.presumed_abort.specs.declared.turns.Then.TheVariants as then'
use Rattle.presumed_abort.specs.declared.turns.Turn.{Turn as StateTurn}
use Rattle.presumed_abort.specs.declared.turns.Voted.{Voted}
use Rattle.presumed_abort.specs.declared.turns.Voted.TheVariants as voted
use Rattle.presumed_abort.specs.declared.turns.Acked.{Acked}
use Rattle.presumed_abort.specs.declared.turns.Acked.TheVariants as acked
use Rattle.presumed_abort.specs.States.{IsDecided, IsClosed}
use Rattle.presumed_abort.specs.Turns.{Change, Keeps, Goes, Turn, waits_as}

-- the change of a transaction that becomes this
abbrev pub change_then : Then → Change
change_then (then'.Ask r) = Keeps (stand.Reading r)
change_then (then'.Collect c) = Keeps (stand.Collecting c)
change_then (then'.Answered t) = Goes

-- what a turn of a state makes of its transaction
abbrev pub turn_of : StateTurn → Turn
turn_of y = record { outs = y.outs.items; change = change_then y.goes; rec = None }

-- The turn is the last yes: it rests on this record, which is the Decided of what is ready and can be encoded;
-- what is ready has its outs.
pub record IsFull (x : Turn) (r : Ready) (rec : Record) : Type 0 where
  pub outs_are : r.outs.items ≡ x.outs
  pub change : Keeps (stand.Committed (record { t = r.t; f = r.f; parts = r.parts; acks = r.acks })) ≡ x.change
  pub is : x.rec ≡ Some rec
  pub of : IsDecided r.t r.f rec
  pub fit : CanEncode rec

-- a vote makes this turn: more are waited for, all have voted yes, or the transaction is aborted
abbrev pub IsVoted : Turn → Voted → Type 0
IsVoted x (voted.More c) = x ≡ waits_as (stand.Collecting c)
IsVoted x (voted.Full r rec) = IsFull x r rec
IsVoted x (voted.Refused a) = x ≡ record { outs = a.outs.items; change = Goes; rec = None }

-- The turn is the last acknowledgement: it rests on this record, which is the Closed of what closes and can be
-- encoded; what closes has its outs.
pub record IsLast (x : Turn) (y : Closing) (rec : Record) : Type 0 where
  pub outs_are : y.outs.items ≡ x.outs
  pub change : x.change ≡ Goes
  pub is : x.rec ≡ Some rec
  pub of : IsClosed y.t rec
  pub fit : CanEncode rec

-- an acknowledgement makes this turn: more are waited for, or all have acknowledged
abbrev pub IsAcked : Turn → Acked → Type 0
IsAcked x (acked.More c) = x ≡ waits_as (stand.Committed c)
IsAcked x (acked.Last y rec) = IsLast x y rec
