-- What the answers of the program mean.
use Rattle.std.specs.Prelude.{◌≡◌, ◌⊎◌, ℕ, ◌≤◌, Bool, false, nat_eq, List, [], ◌∷◌, ◌++◌, length, codes, Result, Ok, Err, Option, nat_le, if◌then◌else◌}
use Rattle.std.specs.Fmt.{decimal}
use Rattle.std.specs.Io.KnownBytes.{Appends, Keeps}
use Rattle.std.specs.Cmp.Lexicographic.{pointwise}
use Rattle.score_base.specs.declared.ids.NodeId.{NodeId}
use Rattle.score_base.specs.Faults.{Rose}
use Rattle.score_disk.specs.declared.disk.Disk.{Ghosts}
use Rattle.score_io.specs.Streams.{ReadWhole, Lost, AppendsPart}
use Rattle.grid_model.specs.declared.acts.Act.{Act}
use Rattle.grid_model.specs.Documents.{DocumentData}
use Rattle.grid_model.specs.Cuts.{cut}
use Rattle.cluster_file.specs.declared.whys.Refusal.{Refusal}
use Rattle.cluster_file.specs.Doc.{doc}
use Rattle.history_print.specs.Text.{text}
use Rattle.text_parts.specs.Answers.{BrokenPart, SomeParts}
use Rattle.score_cli.specs.Disks.{Played}
use Rattle.score_cli.specs.Headline.{Headline}

-- the greatest input that is read, in bytes
abbrev pub input_limit : ℕ
input_limit = 4194304

-- the words are the one command: `run`
abbrev pub is_command : List (List ℕ) → Bool
is_command [] = false
is_command (w ∷ []) = pointwise nat_eq w (codes "run")
is_command (v ∷ w ∷ ws) = false

-- a sink got these bytes, or a proper prefix of them, and then its count of faults rose
pub data Wrote (held_old held_new : Option (List ℕ)) (faults_old faults_new : ℕ) (bytes : List ℕ) : Type 0 where
  whole : Appends held_old held_new bytes → Wrote held_old held_new faults_old faults_new bytes
  part : AppendsPart held_old held_new bytes → Rose faults_old faults_new
      → Wrote held_old held_new faults_old faults_new bytes

-- the line of a refusal: the first line at fault, and why
unfoldable pub refused_line : Refusal → List ℕ
refused_line r = codes "refused " ++ decimal r.line ++ codes " " ++ decimal r.why ++ codes "\n"

-- the input was read to its end, and its bytes are a document within the limit
pub record Came (left_old left_new : Option (List ℕ)) : Type 0 where
  pub bytes : List ℕ
  pub read : ReadWhole left_old left_new bytes
  pub within : length bytes ≤ input_limit
  pub document : DocumentData
  pub spelled : doc bytes ≡ Ok document

-- what is claimed of acts of which nothing more is known: the headline, for some rise of the counts of the disks
abbrev pub HeadlineSoFar : DocumentData → ℕ → List Act → Type 0
HeadlineSoFar d e h = (rise : NodeId → ℕ) × Headline (cut e d) h rise

module _ {D : Type 0} (g : Ghosts D) where
  -- the document was played over the disks, and the text of its acts was written
  pub record Done (left_old left_new held_old held_new : Option (List ℕ)) (given left : List D) : Type 0 where
    pub input : Came left_old left_new
    pub acts : List Act
    pub played : Played g input.document acts given left
    pub wrote : Appends held_old held_new (text acts input.document)

  -- The writing broke in a part of the text, where the sink's count of faults rose. The same is claimed of the acts up to
  -- and with the event of that part, for the document that is cut behind it; no event behind it was played.
  pub record Broken (left_old left_new held_old held_new : Option (List ℕ)) (faults_old faults_new : ℕ)
      (given left : List D) : Type 0 where
    pub input : Came left_old left_new
    pub broke : BrokenPart (λ d e h. Played g (cut e d) h given left) input.document held_old held_new faults_old
        faults_new

-- There was no memory: nothing was written, or the first parts of the text of a run of which the headline holds.
pub data OutOfMemory (left_old left_new held_old held_new : Option (List ℕ)) : Type 0 where
  nothing : Keeps held_old held_new → OutOfMemory left_old left_new held_old held_new
  some : (input : Came left_old left_new) → SomeParts HeadlineSoFar input.document held_old held_new
      → OutOfMemory left_old left_new held_old held_new

-- the input was read to its end and is no document; the first line at fault was told
pub record NoDocument (left_old left_new held_old held_new : Option (List ℕ)) (faults_old faults_new : ℕ) : Type 0 where
  pub bytes : List ℕ
  pub read : ReadWhole left_old left_new bytes
  pub within : length bytes ≤ input_limit
  pub refusal : Refusal
  pub refused : doc bytes ≡ Err refusal
  pub wrote : Wrote held_old held_new faults_old faults_new (refused_line refusal)

-- more bytes came than are read, and that was told
pub record TooLong (left_old left_new held_old held_new : Option (List ℕ)) (faults_old faults_new : ℕ) : Type 0 where
  pub came : Lost left_old left_new 4194305
  pub wrote : Wrote held_old held_new faults_old faults_new (codes "too long\n")

-- the codes that there are
abbrev pub IsCode : ℕ → Type 0
IsCode n = (n ≡ 0) ⊎ ((n ≡ 2) ⊎ ((n ≡ 3) ⊎ ((n ≡ 4) ⊎ ((n ≡ 5) ⊎ (n ≡ 6)))))

-- the code that an input asks for: 0 where it is a document within the limit, and else 3
abbrev pub code_of_doc : Result DocumentData Refusal → ℕ
code_of_doc (Ok d) = 0
code_of_doc (Err r) = 3

abbrev pub code_asked : List ℕ → ℕ
code_asked bytes = if nat_le (length bytes) input_limit then code_of_doc (doc bytes) else 3
