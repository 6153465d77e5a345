-- The document that some bytes spell, or the first line at fault.
use Rattle.std.specs.Prelude.{◌≡◌, ℕ, true, false, ◌+◌, ◌==◌, ◌&&◌, Bool, List, [], ◌∷◌, length, None, Result, Ok, Err, if◌then◌else◌}
use Rattle.std.specs.List.{slice_split}
use Rattle.grid_model.specs.Documents.{DocumentData}
use Rattle.script_lang.specs.Whys.{number_of}
use Rattle.cluster_file.specs.declared.drafts.Draft.{Draft}
use Rattle.cluster_file.specs.declared.drafts.Part.{Part}
use Rattle.cluster_file.specs.declared.drafts.Part.TheVariants as part
use Rattle.cluster_file.specs.declared.whys.Refusal.{Refusal}
use Rattle.cluster_file.specs.declared.whys.DocEnd.{DocEnd}
use Rattle.cluster_file.specs.declared.whys.DocEnd.TheVariants as ends
use Rattle.cluster_file.specs.Lines.{line_of}
use Rattle.script_lang.specs.declared.whys.Why.{Why}
use Rattle.script_lang.specs.declared.whys.Why.TheVariants as why

-- what was read, or the refusal of the line of this number
abbrev pub at_line : {A : Type 0} → ℕ → Result A Why → Result A Refusal
at_line n (Ok x) = Ok x
at_line n (Err w) = Err (record { line = n; why = number_of w })

-- one line behind another: the first at fault decides
infixl 10 ◌>>>◌
abbrev pub ◌>>>◌ : {A B : Type 0} → Result A Refusal → (A → Result B Refusal) → Result B Refusal
(Ok x) >>> f = f x
(Err e) >>> f = Err e

-- the schedule was reached
abbrev pub is_whole : Part → Bool
is_whole part.Items = true
is_whole part.Start = false
is_whole part.Nodes = false
is_whole part.Partitions = false
is_whole part.Inits = false
is_whole part.Scripts = false

-- the end of the input: nothing stands behind the last line feed, and the schedule was reached
abbrev pub close : Draft → List ℕ → Result Draft Why
close d tail = if (length tail == 0) && is_whole d.part then Ok d else Err why.Missing

-- The pieces between line feeds, the first of them with this number. The last has no line feed.
unfoldable pub pieces_from : Draft → ℕ → List (List ℕ) → Result Draft Refusal
pieces_from d n [] = at_line n (Err why.Missing)
pieces_from d n (x ∷ rest) =
    if length rest == 0 then at_line n (close d x) else (at_line n (line_of d x) >>> λ e. pieces_from e (n + 1) rest)

-- nothing is read yet
abbrev pub blank : Draft
blank = record {
  part = part.Start;
  nodes = 0;
  places = [];
  inits = [];
  scripts = [];
  script = None;
  items = [];
  events = 0;
  known = record { keys = [] };
  numbers = record { keys = [] };
}

-- the document of what was read
abbrev pub document_of : Draft → DocumentData
document_of d =
    record
    { cluster = record { nodes = d.nodes; places = d.places; inits = d.inits }; scripts = d.scripts; items = d.items }

-- the document that the bytes spell, or the first line at fault and why
unfoldable pub doc : List ℕ → Result DocumentData Refusal
doc bytes = pieces_from blank 1 (slice_split (λ b. b == 10) bytes) >>> λ d. Ok (document_of d)

abbrev pub FailsDoc : {Y : Type 0} → DocEnd → Result Y Refusal → Type 0
FailsDoc ends.Memory read = Unit {0}
FailsDoc (ends.Refused r) read = read ≡ Err r

-- what a function returned is what a reading gives, unless memory ran out
abbrev pub GivesDoc : {Y : Type 0} → Result Y DocEnd → Result Y Refusal → Type 0
GivesDoc (Ok x) read = read ≡ Ok x
GivesDoc (Err e) read = FailsDoc e read
