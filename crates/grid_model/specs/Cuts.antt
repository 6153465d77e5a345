-- A document that is cut behind its start row or behind one of its events, and the runs of it.
use Rattle.std.specs.Prelude.{◌≡◌, ℕ, ◌+◌, List, [], ◌++◌, length, take, drop}
use Rattle.std.specs.List.{flat_map}
use Rattle.grid_model.specs.declared.acts.Act.{Act}
use Rattle.grid_model.specs.declared.items.Item.{Item}
use Rattle.grid_model.specs.Documents.{DocumentData}
use Rattle.grid_model.specs.Histories.{after}
use Rattle.grid_model.specs.Schedules.{events_in}
use Rattle.grid_model.specs.Runs.{Rows, IsRun}

-- the events of a document, in order, each as an item
abbrev pub events : DocumentData → List Item
events d = flat_map events_in d.items

-- The document whose schedule is the first e events of this one's, each as an item: a `next c` is spelled as
-- c times `next 1`, and one in which the cut lies as so many as are before it.
abbrev pub cut : ℕ → DocumentData → DocumentData
cut e d = record d { items = take e (events d) }

-- these acts are a run of the document cut behind e events
abbrev pub IsCutRun : DocumentData → ℕ → List Act → Type 0
IsCutRun d e acts = IsRun (cut e d) (cut e d).items acts

-- These acts are a run of the document cut behind e events, and the history goes on behind them by the rows of
-- the events that are cut off.
pub record IsCutFront (d : DocumentData) (e : ℕ) (acts h : List Act) : Type 0 where
  pub run : IsCutRun d e acts
  pub later : List Act
  pub whole : h ≡ acts ++ later
  pub rows : Rows d (after [] acts) (drop e (events d)) later

-- These rows, one behind the other, are the acts of a run: the start row, and a row for each event. Those up to
-- event e are a run of the document cut behind e events.
pub record AreRowsOf (d : DocumentData) (h : List Act) (rows : List (List Act)) : Type 0 where
  pub joined : h ≡ flat_map (λ r. r) rows
  pub count : length rows ≡ length (events d) + 1
  pub fronts : (e : ℕ) → IsCutRun d e (flat_map (λ r. r) (take (e + 1) rows))
