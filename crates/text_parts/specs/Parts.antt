-- The parts of a run's text: the lines of its start row, those of each event in order, and the summary.
use Rattle.std.specs.Prelude.{◌≡◌, ℕ, ◌+◌, map, sum_by, drop, List, [], ◌∷◌, ◌++◌}
use Rattle.std.specs.List.{flat_map}
use Rattle.grid_model.specs.declared.acts.Act.{Act}
use Rattle.grid_model.specs.declared.items.Item.{Item}
use Rattle.grid_model.specs.Documents.{DocumentData, events_of}
use Rattle.grid_model.specs.Histories.{after}
use Rattle.grid_model.specs.Schedules.{Choice, row}
use Rattle.grid_model.specs.Cuts.{events, cut, IsCutRun, AreRowsOf}
use Rattle.history_print.specs.Acts.{act_line}
use Rattle.history_print.specs.Text.{summary_text}

-- the lines of some acts
abbrev pub act_lines : List Act → List ℕ
act_lines acts = flat_map act_line acts

-- the parts of the text of a run with these rows: the lines of each row, and the summary of all
abbrev pub text_parts : DocumentData → List (List Act) → List (List ℕ)
text_parts d rows = map act_lines rows ++ summary_text d (flat_map (λ r. r) rows) ∷ []

-- these acts are the row of event k + 1, behind the acts up to event k, by some choices of the disks
pub record IsNextRow (d : DocumentData) (k : ℕ) (old new : List Act) : Type 0 where
  pub event : Item
  pub later : List Item
  pub next : drop k (events d) ≡ event ∷ later
  pub choice : Choice
  pub row_is : new ≡ row d (after [] old) event choice

-- A part of the text of a run, and what stands before it. The acts are those of the start row and of the first e
-- events, a run of the document cut behind them. The part is the lines of the start row, where no event is played
-- and nothing stands before it; the lines of event e, behind those of the start row and of the events before it;
-- or the summary, behind all lines, where e is the number of all events.
pub data IsPart (d : DocumentData) (e : ℕ) (h : List Act) (before part : List ℕ) : Type 0 where
  start : e ≡ 0 → IsCutRun d e h → before ≡ [] → part ≡ act_lines h → IsPart d e h before part
  event : (k : ℕ) (old new : List Act) → e ≡ k + 1 → h ≡ old ++ new → IsCutRun d k old → IsNextRow d k old new
      → before ≡ act_lines old → part ≡ act_lines new → IsPart d e h before part
  summary : e ≡ sum_by events_of d.items → IsCutRun d e h → before ≡ act_lines h → part ≡ summary_text d h
      → IsPart d e h before part

-- The part stands among the parts of the text of these acts, as a run of the document cut behind e events, and what
-- stands before it are the parts before, joined.
pub record IsPlaced (d : DocumentData) (e : ℕ) (h : List Act) (before part : List ℕ) : Type 0 where
  pub rows : List (List Act)
  pub are : AreRowsOf (cut e d) h rows
  pub earlier : List (List ℕ)
  pub later : List (List ℕ)
  pub parts : text_parts (cut e d) rows ≡ earlier ++ part ∷ later
  pub joined : before ≡ flat_map (λ p. p) earlier
