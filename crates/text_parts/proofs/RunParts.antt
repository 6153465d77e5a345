-- The start row, the row of the event that comes next, and the summary behind all events make the parts.
use Rattle.std.proofs.Common.{◌≡◌, ℕ, ◌+◌, Bool, List, [], ◌∷◌, ◌++◌, drop, refl, sym, ap, subst, ◌∙◌}
use Rattle.std.specs.Prelude.{sum_by}
use Rattle.std.proofs.lemmas.List.{append-nil}
use Rattle.score_base.specs.declared.ids.NodeId.{NodeId}
use Rattle.grid_model.specs.declared.acts.Act.{Act}
use Rattle.grid_model.specs.declared.items.Item.{Item}
use Rattle.grid_model.specs.Documents.{DocumentData, events_of}
use Rattle.grid_model.specs.Histories.{after}
use Rattle.grid_model.specs.Schedules.{Choice, row, start_row}
use Rattle.grid_model.specs.Runs.{Rows}
use Rattle.grid_model.specs.Cuts.{events, IsCutRun}
use Rattle.history_print.specs.Text.{summary_text}
use Rattle.run_tally.specs.Tallies.{tally_of}
use Rattle.run_tally.specs.Texts.{TallyText}
use Rattle.text_parts.proofs.ForCode.{cut-more, tally-cut}
use Rattle.text_parts.specs.Parts.{act_lines, IsNextRow, IsPart, start, event, summary}

pub part-start : (d : DocumentData) (h : List Act) → IsCutRun d 0 h → IsPart d 0 h [] (act_lines h)
part-start d h run = start refl run refl refl

pub part-event : (d : DocumentData) (e : ℕ) (h : List Act) (x : Item) (later : List Item) (c : Choice) →
    IsCutRun d e h → drop e (events d) ≡ x ∷ later →
    IsPart d (e + 1) (h ++ row d (after [] h) x c) (act_lines h) (act_lines (row d (after [] h) x c))
part-event d e h x later c run at =
    let next : IsNextRow d e h (row d (after [] h) x c) =
    record { event = x; later = later; next = at; choice = c; row_is = refl } in
    event e h (row d (after [] h) x c) refl refl run next refl refl

pub part-summary : (d : DocumentData) (h : List Act) → IsCutRun d (sum_by events_of d.items) h →
    IsPart d (sum_by events_of d.items) h (act_lines h) (summary_text d h)
part-summary d h run = summary refl run refl refl

pub part-tally : (d : DocumentData) (h : List Act) → IsCutRun d (sum_by events_of d.items) h →
    IsPart d (sum_by events_of d.items) h (act_lines h) (TallyText d (tally_of d h))
part-tally d h run =
    let e : ℕ = sum_by events_of d.items in
    summary refl run refl (tally-cut d e h [] (subst (λ z. IsCutRun d e z) (sym (append-nil h)) run))

-- the row that comes next leads to a run of one event more
pub run-next : (d : DocumentData) (k : ℕ) (old new : List Act) → IsCutRun d k old → IsNextRow d k old new →
    IsCutRun d (k + 1) (old ++ new)
run-next d k old new run next =
    subst (λ z. IsCutRun d (k + 1) (old ++ z)) (sym next.row_is)
    (cut-more d k old next.event next.later next.choice run next.next)

pub part-run : (d : DocumentData) (e : ℕ) (h : List Act) (before part : List ℕ) → IsPart d e h before part →
    IsCutRun d e h
part-run d e h before part (start none run b p) = run
part-run d e h before part (event k old new count joined run next b p) =
    subst (λ n. IsCutRun d n h) (sym count)
    (subst (λ z. IsCutRun d (k + 1) z) (sym joined) (run-next d k old new run next))
part-run d e h before part (summary all run b p) = run

-- a run of no event is a start row
pub run-start : (d : DocumentData) (h : List Act) → IsCutRun d 0 h →
    (opens : NodeId → Bool) × (h ≡ start_row d.cluster.nodes opens)
unfolding Rows
run-start d h run = (
  run.opens,
  run.start ∙ ap (λ z. start_row d.cluster.nodes run.opens ++ z) run.rows
      ∙ append-nil (start_row d.cluster.nodes run.opens),
)
