-- What the playing and writing of a document leaves, by the code that it ends with.
use Rattle.std.specs.Prelude.{◌≡◌, ◌⊎◌, ℕ, List, Option}
use Rattle.std.specs.Io.KnownBytes.{Appends}
use Rattle.score_disk.specs.declared.disk.Disk.{Ghosts}
use Rattle.grid_model.specs.declared.acts.Act.{Act}
use Rattle.grid_model.specs.Documents.{DocumentData}
use Rattle.grid_model.specs.Cuts.{cut}
use Rattle.history_print.specs.Text.{text}
use Rattle.text_parts.specs.Answers.{BrokenPart, SomeParts}
use Rattle.score_cli.specs.Answers.{HeadlineSoFar}
use Rattle.score_cli.specs.Disks.{Played}

module _ {D : Type 0} (g : Ghosts D) where
  -- the text of acts was written whole
  pub record IsWhole (d : DocumentData) (given left : List D) (held_old held_new : Option (List ℕ)) : Type 0 where
    pub acts : List Act
    pub played : Played g d acts given left
    pub wrote : Appends held_old held_new (text acts d)

  -- the code, and what it means
  pub data IsPlayed (d : DocumentData) (given left : List D) (held_old held_new : Option (List ℕ))
      (faults_old faults_new code : ℕ) : Type 0 where
    whole : code ≡ 0 → IsWhole d given left held_old held_new
        → IsPlayed d given left held_old held_new faults_old faults_new code
    broken : code ≡ 5 → BrokenPart (λ x e h. Played g (cut e x) h given left) d held_old held_new faults_old faults_new
        → IsPlayed d given left held_old held_new faults_old faults_new code
    memory : code ≡ 6 → SomeParts HeadlineSoFar d held_old held_new
        → IsPlayed d given left held_old held_new faults_old faults_new code
