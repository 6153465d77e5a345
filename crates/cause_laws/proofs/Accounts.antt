-- Where the open transactions are excused, each transaction that was begun is accounted for.
use Rattle.std.proofs.Common.{◌≡◌, ◌⊎◌, ℕ, inl, inr, Bool, true, false, List, [], Option, Some, None, refl}
use Rattle.std.specs.Prelude.{is_some, ◌&&◌, not, if◌then◌else◌}
use Rattle.script_lang.specs.declared.scripts.Op.{Op}
use Rattle.script_lang.specs.Reads.{is_update}
use Rattle.grid_model.specs.declared.acts.Act.{Act}
use Rattle.grid_model.specs.declared.stories.Story.{Story}
use Rattle.grid_model.specs.Documents.{DocumentData}
use Rattle.grid_model.specs.Histories.{after}
use Rattle.journal_words.specs.Journals.{Decision, later_decision, is_closed}
use Rattle.grid_model.specs.Nodes.{node}
use Rattle.grid_model.specs.Stories.{skipped_in, Phase, Unbegun, Lost, Closed, Decided, Aborted, Answered, Reading, Collecting, decided_phase, is_open, open_phase, phase, phase_by, story}
use Rattle.script_runs.specs.Waits.{waiting}
use Rattle.grid_model.specs.Excuses.{Accounted, Excused, is_settled}

-- what was begun is settled or open
either : (p : Phase) → (p ≡ Unbegun → ⊥) → (is_settled p ≡ true) ⊎ (is_open p ≡ true)
either Unbegun h = absurd (h refl)
either Lost h = inl refl
either (Closed f) h = inl refl
either (Decided y) h = inl refl
either Aborted h = inl refl
either Answered h = inl refl
either (Reading j) h = inr refl
either Collecting h = inr refl

open-begun : (o : Option ℕ) → open_phase o ≡ Unbegun → ⊥
open-begun None e = cc
open-begun (Some j) e = cc

undecided-begun : (ops : List Op) (x : Story) (a f : Bool)
    → (if a then Aborted else (if f then Answered else open_phase (waiting ops x.progress.values))) ≡ Unbegun → ⊥
undecided-begun ops x true f e = cc
undecided-begun ops x false true e = cc
undecided-begun ops x false false e = open-begun (waiting ops x.progress.values) e

decided-begun : (ops : List Op) (x : Story) (closed : Bool) (o : Option Decision)
    → decided_phase ops x closed o ≡ Unbegun → ⊥
decided-begun ops x closed None e = undecided-begun ops x x.aborted (x.finished && not (is_update ops)) e
decided-begun ops x true (Some y) e = cc
decided-begun ops x false (Some y) e = cc

begun : (ops : List Op) (o : Option Story) (closed : Bool) (y : Option Decision) → is_some o ≡ true
    → phase_by ops o closed y ≡ Unbegun → ⊥
begun ops None closed y h e = cc
begun ops (Some x) closed y h e = go x.lost e
  where
    go : (b : Bool) → (if b then Lost else decided_phase ops x closed y) ≡ Unbegun → ⊥
    go true e = cc
    go false e = decided-begun ops x closed y e

-- in each history, a run or not
pub accounts : (d : DocumentData) (h : List Act) → Excused d h → Accounted d h
accounts d h excused s t is told = elim (either (phase d (after [] h) s) (begun s.ops (story d (after [] h) s.number) (is_closed s.number (node d (after [] h) s.home).journal) (later_decision (skipped_in (story d (after [] h) s.number)) s.number (node d (after [] h) s.home).journal) told)) [
  | inl settled ↦ inl settled
  | inr open' ↦ inr (excused s t is open')
]
