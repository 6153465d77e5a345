-- Views that differ in their journals alone, behind an event.
use Rattle.std.specs.Prelude.{◌≡◌, List, ◌++◌, Option}
use Rattle.score_base.specs.declared.ids.NodeId.{NodeId}
use Rattle.score_base.specs.declared.records.Record.{Record}
use Rattle.journal_words.specs.Small.{AreAlike}
use Rattle.grid_model.specs.declared.acts.Act.{Act}
use Rattle.grid_model.specs.declared.events.Event.{Event}
use Rattle.grid_model.specs.declared.events.Out.{Out}
use Rattle.grid_model.specs.Documents.{DocumentData}
use Rattle.grid_model.specs.NextViews.{next_view}
use Rattle.grid_model.specs.Nodes.{journal, written}
use Rattle.grid_model.specs.Rows.{outs_of}
use Rattle.grid_model.specs.Views.{View, view}

-- Behind an event with these outs the same records are written on the journal of the view and on the list r. The next
-- view of the one with r as its journal is that of the other with r and these records, and the two are alike.
pub record IsNextAlike (n : NodeId) (v : View) (r : List Record) (e : Event) (os : List Out) : Type 0 where
  pub fresh : List Record
  pub journal : (next_view n v e os).journal ≡ fresh ++ v.journal
  pub view : next_view n (record v { journal = r }) e os ≡ record (next_view n v e os) { journal = fresh ++ r }
  pub alike : AreAlike (fresh ++ r) (next_view n v e os).journal

-- A node that shows the view of n behind a past, with the list r in the place of the journal, gives at an event the
-- outs of its row; behind the acts of the event it shows the view of n, with r and the record that was written, where
-- there is one, in the place of the journal, and this list is alike to the journal.
pub record IsShownNext (d : DocumentData) (past now : List Act) (n : NodeId) (e : Event) (r : List Record)
    (x : Option Record) : Type 0 where
  pub outs : outs_of n (record (view d past n) { journal = r }) e ≡ outs_of n (view d past n) e
  pub view : next_view n (record (view d past n) { journal = r }) e (outs_of n (view d past n) e)
      ≡ record (view d now n) { journal = written x r }
  pub alike : AreAlike (written x r) (journal d now n)
