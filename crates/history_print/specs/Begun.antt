-- The words of a transaction's line, by what decides them one after the other.
use Rattle.std.specs.Prelude.{ℕ, Bool, ◌&&◌, not, List, [], ◌∷◌, codes, Option, Some, None, if◌then◌else◌}
use Rattle.std.specs.Fmt.{decimal}
use Rattle.score_base.specs.declared.ids.Ident.{Ident}
use Rattle.script_lang.specs.declared.scripts.Op.{Op}
use Rattle.script_lang.specs.Reads.{is_update}
use Rattle.grid_model.specs.declared.stories.Story.{Story}
use Rattle.script_runs.specs.Waits.{waiting}
use Rattle.grid_model.specs.Copies.{snapshot_in}

-- an open transaction reads an operation or collects votes
unfoldable pub open_words : Option ℕ → List (List ℕ)
open_words None = codes "collecting" ∷ []
open_words (Some j) = codes "reading" ∷ decimal j ∷ []

-- a transaction that is not decided
unfoldable pub undecided_words : Bool → Bool → Option ℕ → Ident → List (List ℕ)
undecided_words aborted answered waits sid =
    if aborted then codes "aborted" ∷ [] else (if answered then codes "read" ∷ decimal sid ∷ [] else open_words waits)

-- a committed transaction
unfoldable pub final_words : Ident → List (List ℕ)
final_words f = codes "committed" ∷ decimal f ∷ []

-- a transaction that is not lost, by its final identifier
abbrev pub decided_words : Option Ident → List (List ℕ) → List (List ℕ)
decided_words None rest = rest
decided_words (Some f) rest = final_words f

-- a transaction by its story and its final identifier
unfoldable pub story_words : List Op → Option Story → Option Ident → List (List ℕ)
story_words ops None f = codes "unbegun" ∷ []
story_words ops (Some x) f =
    if x.lost then codes "lost" ∷ [] else decided_words f (undecided_words x.aborted (x.finished && not (is_update ops))
    (waiting ops x.progress.values) (snapshot_in (Some x)))
