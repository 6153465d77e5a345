-- What a desk hands out: outs, or what is due with its record.
use Rattle.std.specs.Prelude.{◌≡◌, List, Some, None}
use Rattle.score_base.specs.declared.ids.TxId.{TxId}
use Rattle.score_base.specs.declared.records.Record.{Record}
use Rattle.journal_records.specs.Records.{CanEncode}
use Rattle.grid_model.specs.declared.events.Out.{Out}
use Rattle.presumed_abort.specs.declared.dues.Due.{Due}
use Rattle.presumed_abort.specs.declared.dues.Due.TheVariants as due'
use Rattle.presumed_abort.specs.declared.dues.DeskDue.{DeskDue}
use Rattle.presumed_abort.specs.declared.dues.DeskTurn.{DeskTurn}
use Rattle.presumed_abort.specs.declared.dues.DeskTurn.TheVariants as turn'
use Rattle.presumed_abort.specs.declared.stands.Stand.{Stand}
use Rattle.presumed_abort.specs.declared.stands.Stand.TheVariants as stand
use Rattle.presumed_abort.specs.States.{IsDecided, IsClosed}
use Rattle.presumed_abort.specs.Stands.{standing}
use Rattle.presumed_abort.specs.Turns.{Change, Keeps, Goes, changed, Turn}

-- the change that is due
abbrev pub change_due : Due → Change
change_due (due'.Commit x) = Keeps (stand.Committed (record { t = x.t; f = x.f; parts = x.parts; acks = x.acks }))
change_due (due'.Close x) = Goes

-- the record is that on which the change rests
abbrev pub IsOf : Due → Record → Type 0
IsOf (due'.Commit x) rec = IsDecided x.t x.f rec
IsOf (due'.Close x) rec = IsClosed x.t rec

-- The turn is done: these outs are given, and the change is made.
pub record IsDone (x : Turn) (t : TxId) (old new : List (TxId × Stand)) (outs : List Out) : Type 0 where
  pub outs_are : outs ≡ x.outs
  pub none : x.rec ≡ None
  pub desk : new ≡ changed t x.change old

-- The turn is due on its record, which can be encoded: what is due has its outs and its change, and the
-- transaction is away from the desk.
pub record IsDue (x : Turn) (t : TxId) (old new : List (TxId × Stand)) (d : DeskDue) (rec : Record) : Type 0 where
  pub tx : d.t ≡ t
  pub outs_are : d.outs.items ≡ x.outs
  pub change : change_due d.due ≡ x.change
  pub is : x.rec ≡ Some rec
  pub of : IsOf d.due rec
  pub fit : CanEncode rec
  pub away : new ≡ changed t (Keeps stand.Away) old
  pub place : standing new t ≡ Some stand.Away

-- the desk hands out this turn of t
abbrev pub IsTurn : Turn → TxId → List (TxId × Stand) → List (TxId × Stand) → DeskTurn → Type 0
IsTurn x t old new (turn'.Outs outs) = IsDone x t old new outs.items
IsTurn x t old new (turn'.Due d rec) = IsDue x t old new d rec
