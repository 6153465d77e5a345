-- What the playing of a document leaves of a world and of what a sink got, where each part of the text is written
-- before the next event is played.
use Rattle.std.specs.Prelude.{ℕ, ◌+◌, ◌≤◌, sum_by, List, length, Option, Result, Ok, Err}
use Rattle.std.specs.Io.KnownBytes.{Appends}
use Rattle.score_base.specs.declared.ids.NodeId.{NodeId}
use Rattle.score_base.specs.Faults.{Rose}
use Rattle.score_disk.specs.declared.disk.Disk.{Ghosts}
use Rattle.grid_model.specs.declared.acts.Act.{Act}
use Rattle.grid_model.specs.declared.items.Item.{Item}
use Rattle.grid_model.specs.Documents.{DocumentData, IsOne, events_of}
use Rattle.grid_model.specs.Cuts.{cut}
use Rattle.history_print.specs.Text.{text}
use Rattle.disk_laws.specs.SoFar.{LawfulSoFar}
use Rattle.text_parts.specs.declared.parts.PartEnd.{PartEnd}
use Rattle.text_parts.specs.declared.parts.PartEnd.TheVariants.{WriteFault, Memory}
use Rattle.text_parts.specs.Parts.{act_lines, IsPart}
use Rattle.text_parts.specs.Streams.{AppendsBehind}
use Rattle.text_parts.specs.Answers.{BrokenPart, SomeParts}
use Rattle.grid_world.specs.declared.worlds.World.{World}
use Rattle.grid_world.specs.Follows.{Follows}
use Rattle.grid_world.specs.Replays.{AreNext, HasReplayed}
use Rattle.grid_world.specs.Starts.{IsFresh}
use Rattle.run_writer.specs.declared.runs.RunEnd.{RunEnd}
use Rattle.run_writer.specs.declared.runs.RunEnd.TheVariants as ends

-- these acts are a lawful run of the document cut behind so many events, for some rise of the counts of the disks
abbrev pub IsLawfulSoFar : DocumentData → ℕ → List Act → Type 0
IsLawfulSoFar d e h = (rise : NodeId → ℕ) × LawfulSoFar d e h rise

module _ {D : Type 0} {g : Ghosts D} where
  -- the world follows the run of the first e events, and the sink got the lines of its acts
  pub record IsWritten (d : DocumentData) (e : ℕ) (given : List D) (w : World D g) (held_old held_new : Option (List ℕ)) :
      Type 0 where
    pub acts : List Act
    pub follows : Follows d e acts given w
    pub wrote : Appends held_old held_new (act_lines acts)

  -- the world follows the run of all events, and the sink got the whole text of its acts
  pub record IsWhole (d : DocumentData) (given : List D) (w : World D g) (held_old held_new : Option (List ℕ)) : Type 0
    where
      pub acts : List Act
      pub follows : Follows d (sum_by events_of d.items) acts given w
      pub wrote : Appends held_old held_new (text acts d)

  -- The writing broke in a part, where the sink's count of faults rose: the world follows the run up to and with the
  -- event of that part, and no further.
  pub record IsTorn (d : DocumentData) (given : List D) (w : World D g) (held_old held_new : Option (List ℕ))
      (faults_old faults_new : ℕ) : Type 0 where
    pub events : ℕ
    pub acts : List Act
    pub follows : Follows d events acts given w
    pub before : List ℕ
    pub part : List ℕ
    pub place : IsPart d events acts before part
    pub wrote : AppendsBehind held_old held_new before part
    pub rose : Rose faults_old faults_new

  -- what a call leaves by its answer, where Done is what stands behind one that went through
  abbrev pub OrEnds : Type 0 → DocumentData → List D → World D g → Option (List ℕ) → Option (List ℕ) → ℕ → ℕ
      → Result (Unit {0}) PartEnd → Type 0
  OrEnds Done d given w old new faults_old faults_new (Ok x) = Done
  OrEnds Done d given w old new faults_old faults_new (Err WriteFault) = IsTorn d given w old new faults_old faults_new
  OrEnds Done d given w old new faults_old faults_new (Err Memory) = SomeParts IsLawfulSoFar d old new

  -- Whatever run the world follows, where these are its next events and the sink got the lines of its acts since it held
  -- what it held at some start: they were played, and the lines of each were written before the next.
  abbrev pub Writes : DocumentData → List Item → World D g → World D g → Option (List ℕ) → Option (List ℕ) → ℕ → ℕ
      → Result (Unit {0}) PartEnd → Type 0
  Writes d is w w' held held' faults faults' r =
      (e : ℕ) (given : List D) (start : Option (List ℕ)) (least : ℕ) → IsOne d → IsWritten d e given w start held
      → AreNext d e is → e + length is ≤ 50000 → least ≤ faults
      → OrEnds (IsWritten d (e + length is) given w' start held') d given w' start held' least faults' r

  -- whatever disks a fresh world stands on: its nodes were opened, and the lines of the start row written
  abbrev pub WritesStart : DocumentData → World D g → World D g → Option (List ℕ) → Option (List ℕ) → ℕ → ℕ
      → Result (Unit {0}) PartEnd → Type 0
  WritesStart d w w' held held' faults faults' r =
      (given : List D) → IsFresh d given w
      → OrEnds (IsWritten d 0 given w' held held') d given w' held held' faults faults' r

  -- whatever disks a fresh world stands on: all was played, and each part of the text written before the next event
  abbrev pub WritesText : DocumentData → World D g → World D g → Option (List ℕ) → Option (List ℕ) → ℕ → ℕ
      → Result (Unit {0}) PartEnd → Type 0
  WritesText d w w' held held' faults faults' r =
      (given : List D) → IsFresh d given w
      → OrEnds (IsWhole d given w' held held') d given w' held held' faults faults' r

-- The document was played whole over disks that were given so and are left so, and the sink got the text of its acts.
pub record IsTextWritten {D : Type 0} (g : Ghosts D) (d : DocumentData) (given left : List D)
    (held_old held_new : Option (List ℕ)) : Type 0 where
  pub acts : List Act
  pub replayed : HasReplayed g d given left acts
  pub wrote : Appends held_old held_new (text acts d)

-- What a run that is written leaves, by how it ended. Where the sink failed, what is claimed of a whole run holds of the
-- acts up to and with the event of the part in which it failed, for the document cut behind that event.
abbrev pub HasWritten : {D : Type 0} → Ghosts D → DocumentData → List D → Option (List ℕ) → Option (List ℕ) → ℕ → ℕ
    → RunEnd D → Type 0
HasWritten g d given old new faults_old faults_new (ends.Whole left) = IsTextWritten g d given left.items old new
HasWritten g d given old new faults_old faults_new (ends.Broken left) =
    BrokenPart (λ x e h. HasReplayed g (cut e x) given left.items h) d old new faults_old faults_new
HasWritten g d given old new faults_old faults_new ends.Memory = SomeParts IsLawfulSoFar d old new
