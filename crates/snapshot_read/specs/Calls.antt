-- What the calls of a read leave of a store and of the held reads.
use Rattle.std.specs.Prelude.{◌≡◌, ◌≤◌, max, true, List, ◌++◌, ◌∷◌, []}
use Rattle.score_base.specs.declared.records.Record.{Record}
use Rattle.journal_records.specs.Records.{CanEncode}
use Rattle.journal_words.specs.Journals.{fits}
use Rattle.grid_model.specs.declared.stories.HeldRead.{HeldRead}
use Rattle.grid_store.specs.Given.{Given, HasRoom, IsSame}
use Rattle.snapshot_read.specs.declared.answers.Arrived.{Arrived}
use Rattle.snapshot_read.specs.declared.answers.Arrived.TheVariants as arrived
use Rattle.snapshot_read.specs.declared.answers.Promised.{Promised}
use Rattle.snapshot_read.specs.declared.answers.Promised.TheVariants as promised
use Rattle.snapshot_read.specs.declared.dues.CeilingDue.{CeilingDue}
use Rattle.snapshot_read.specs.Held.{HeldReads}
use Rattle.snapshot_read.specs.Reads.{ceiling_for}

-- the held reads behind the answer to a read: one that has to wait comes last
abbrev pub held_with : Promised → HeldRead → List HeldRead → List HeldRead
held_with (promised.Hold w) h hs = hs ++ h ∷ []
held_with (promised.Serve a) h hs = hs

-- a read was answered: the clock is at least its identifier, and it is held where it has to wait
pub record IsAnswered (p : Promised) (h : HeldRead) (s : Given) (w : HeldReads) (s' : Given)
    (w' : HeldReads) : Type 0 where
  pub store : s' ≡ record s { next = max s.next h.sid }
  pub held : w'.reads ≡ held_with p h w.reads

-- a record is due: it fits, it has a spelling, and there is room for it
pub record IsDue (x : Record) (s : Given) : Type 0 where
  pub fit : fits s.cluster s.node s.journal x ≡ true
  pub spelt : CanEncode x
  pub room : HasRoom x s.room

-- a ceiling is due on its record, and there is a place for one more held read; all else is as before
pub record IsReserved (due : CeilingDue) (x : Record) (h : HeldRead) (s : Given) (w : HeldReads) (s' : Given)
    (w' : HeldReads) : Type 0 where
  pub read : due.read ≡ h
  pub of : x ≡ ceiling_for due.read
  pub record_due : IsDue x s'
  pub place : 1 ≤ w'.spare
  pub store : IsSame s s'
  pub held : w'.reads ≡ w.reads

-- what an arriving read leaves
abbrev pub Leaves : Arrived → HeldRead → Given → HeldReads → Given → HeldReads → Type 0
Leaves (arrived.NeedCeiling due x) h s w s' w' = IsReserved due x h s w s' w'
Leaves (arrived.Hold y) h s w s' w' = IsAnswered (promised.Hold y) h s w s' w'
Leaves (arrived.Serve a) h s w s' w' = IsAnswered (promised.Serve a) h s w s' w'
