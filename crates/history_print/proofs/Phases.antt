-- The words of a transaction's line, by what decides them one after the other, are those of its phase.
use Rattle.std.proofs.Common.{◌≡◌, ℕ, Bool, true, false, ◌&&◌, not, List, Option, Some, None, refl, if◌then◌else◌}
use Rattle.std.specs.Option.{option_map}
use Rattle.score_base.specs.declared.ids.Ident.{Ident}
use Rattle.script_lang.specs.declared.scripts.Op.{Op}
use Rattle.script_lang.specs.Reads.{is_update}
use Rattle.grid_model.specs.declared.stories.Story.{Story}
use Rattle.journal_words.specs.Journals.{Decision}
use Rattle.grid_model.specs.Stories.{Phase, Lost, Closed, Decided, Aborted, Answered, open_phase, undecided_phase, phase_by}
use Rattle.script_runs.specs.Waits.{waiting}
use Rattle.grid_model.specs.Copies.{snapshot_in}
use Rattle.history_print.specs.Text.{phase_words}
use Rattle.history_print.specs.Begun.{open_words, undecided_words, final_words, story_words}

-- a choice of words is the words of the choice
if_words : (b : Bool) (v w : List (List ℕ)) (p q : Phase) (sid : Ident) → v ≡ phase_words p sid → w ≡ phase_words q sid
    → (if b then v else w) ≡ phase_words (if b then p else q) sid
if_words true v w p q sid e f = e
if_words false v w p q sid e f = f

open_same : (w : Option ℕ) (sid : Ident) → open_words w ≡ phase_words (open_phase w) sid
unfolding open_words phase_words
open_same None sid = refl
open_same (Some j) sid = refl

undecided_same : (ops : List Op) (x : Story) → undecided_words x.aborted (x.finished && not (is_update ops))
    (waiting ops x.progress.values) (snapshot_in (Some x)) ≡ phase_words (undecided_phase ops x) (snapshot_in (Some x))
unfolding undecided_words phase_words
undecided_same ops x = if_words x.aborted _ _ Aborted _ _ refl (if_words (x.finished && not (is_update ops)) _ _ Answered (open_phase (waiting ops x.progress.values)) _ refl (open_same (waiting ops x.progress.values) _))

pub story_same : (ops : List Op) (o : Option Story) (closed : Bool) (y : Option Decision)
    → story_words ops o (option_map (λ d. d.final) y) ≡ phase_words (phase_by ops o closed y) (snapshot_in o)
unfolding story_words final_words phase_words
story_same ops None closed y = refl
story_same ops (Some x) closed None = if_words x.lost _ _ Lost (undecided_phase ops x) _ refl (undecided_same ops x)
story_same ops (Some x) true (Some y) = if_words x.lost _ _ Lost (Closed y.final) _ refl refl
story_same ops (Some x) false (Some y) = if_words x.lost _ _ Lost (Decided y) _ refl refl
