-- What the answers of the program mean where each part of the text is written before the next event is played.
-- `Claim` is what is claimed of the acts of the document cut behind some events.
use Rattle.std.specs.Prelude.{ℕ, List, [], Option}
use Rattle.std.specs.Io.KnownBytes.{Appends}
use Rattle.score_base.specs.Faults.{Rose}
use Rattle.grid_model.specs.declared.acts.Act.{Act}
use Rattle.grid_model.specs.Documents.{DocumentData}
use Rattle.grid_model.specs.Cuts.{IsCutRun}
use Rattle.text_parts.specs.Parts.{act_lines, IsPart}
use Rattle.text_parts.specs.Streams.{AppendsBehind}

-- The writing broke in a part: the parts before it were written whole and a proper prefix of it behind them, and
-- the sink's count of faults rose. What is claimed holds of the acts of the start row and of all events up to and
-- with that of the part, a run of the document cut behind them.
pub record BrokenPart (Claim : DocumentData → ℕ → List Act → Type 0) (d : DocumentData)
    (held_old held_new : Option (List ℕ)) (faults_old faults_new : ℕ) : Type 0 where
  pub events : ℕ
  pub acts : List Act
  pub claim : Claim d events acts
  pub before : List ℕ
  pub part : List ℕ
  pub place : IsPart d events acts before part
  pub wrote : AppendsBehind held_old held_new before part
  pub rose : Rose faults_old faults_new

-- What was written are the first parts of such a run: none, or the lines of the start row and of some first events.
pub data SomeParts (Claim : DocumentData → ℕ → List Act → Type 0) (d : DocumentData)
    (held_old held_new : Option (List ℕ)) : Type 0 where
  no_part : Appends held_old held_new [] → SomeParts Claim d held_old held_new
  whole_parts : (events : ℕ) (acts : List Act) → IsCutRun d events acts → Claim d events acts
      → Appends held_old held_new (act_lines acts) → SomeParts Claim d held_old held_new
