-- What the row of an event writes: nothing, one record, or the journal made small; and the row where the disk fails.
use Rattle.std.specs.Prelude.{◌≡◌, false, List, [], ◌∷◌, Some}
use Rattle.score_base.specs.declared.ids.NodeId.{NodeId}
use Rattle.score_base.specs.declared.records.Record.{Record}
use Rattle.grid_model.specs.declared.acts.Act.TheVariants as act
use Rattle.grid_model.specs.declared.acts.Head.TheVariants as head
use Rattle.grid_model.specs.declared.events.Event.{Event}
use Rattle.grid_model.specs.declared.events.Event.TheVariants as event
use Rattle.grid_model.specs.declared.events.Out.TheVariants as out
use Rattle.grid_model.specs.NextViews.{next_view}
use Rattle.grid_model.specs.Rows.{outs_of}
use Rattle.grid_model.specs.Schedules.{kept}
use Rattle.grid_model.specs.Views.{View}
use Rattle.node_core.specs.Heads.{head_of}

-- the journal behind an event at n
abbrev pub journal_behind : NodeId → View → Event → List Record
journal_behind n v e = (next_view n v e (outs_of n v e)).journal

-- The row of an event at n on a view writes nothing, and no disk can stop it; or it writes one record, and where the
-- disk fails the row is the stop at its head; or it is a compaction, and where the disk fails the row is that stop.
pub data RowWrites (n : NodeId) (v : View) (e : Event) : Type 0 where
  nothing : journal_behind n v e ≡ v.journal → kept false n (outs_of n v e) ≡ outs_of n v e → RowWrites n v e
  one : (x : Record) → journal_behind n v e ≡ x ∷ v.journal
      → kept false n (outs_of n v e) ≡ out.Act (act.Down n (Some (head_of x))) ∷ [] → RowWrites n v e
  compaction : e ≡ event.Compact → journal_behind n v e ≡ v.journal
      → kept false n (outs_of n v e) ≡ out.Act (act.Down n (Some head.Compact)) ∷ [] → RowWrites n v e
