-- Each act of a lawful run was due where it came.
use Rattle.std.proofs.Common.{◌≡◌, true, List, [], ◌∷◌, Option, Some, None, refl, sym, subst}
use Rattle.std.specs.List.{flat_map, range_with_len}
use Rattle.score_base.specs.declared.ids.TxId.{TxId}
use Rattle.script_lang.specs.Scripts.{ScriptData}
use Rattle.grid_model.specs.declared.acts.Act.{Act}
use Rattle.grid_model.specs.declared.items.Item.{Item}
use Rattle.grid_model.specs.Documents.{DocumentData}
use Rattle.grid_model.specs.Histories.{after}
use Rattle.grid_model.specs.Schedules.{row, start_row, events_in}
use Rattle.grid_model.specs.Runs.{Rows, IsRun}
use Rattle.journal_words.specs.Journals.{Decision, decision, has_decided}
use Rattle.grid_model.specs.Nodes.{journal}
use Rattle.grid_model.specs.Stories.{story}
use Rattle.journal_words.proofs.Decisions.{decision-has}
use Rattle.grid_laws.proofs.UntakingActs.{untaking-starts}
use Rattle.grid_laws.proofs.Causes.{AllDue}
use Rattle.grid_laws.proofs.DueActs.{all-after}
use Rattle.grid_model.proofs.EventShapes.{after-append}
use Rattle.grid_laws.proofs.DueRuns.{UnbegunUndecided, due-row, due-start}
use Rattle.grid_laws.proofs.NodesFitActs.{nodes-fit}
use Rattle.grid_laws.proofs.DecisionsRest.{decided-say, decision-stands}
use Rattle.grid_laws.proofs.Answered.{AllTold, untaking-all}
use Rattle.grid_laws.proofs.AnsweredRuns.{told-row, answered-told}

told-none : (d : DocumentData) (past : List Act) (t : TxId) (s : ScriptData) (o : Option Decision) → AllDue d past
    → story d past t ≡ None → decision t (journal d past s.home) ≡ o → o ≡ None
told-none d past t s None due new is = refl
told-none d past t s (Some y) due new is =
    let has : has_decided t y.final (journal d past s.home) ≡ true = decision-has t y (journal d past s.home) is in
    let says = (decision-stands d past s.home t y.final (journal d past s.home) (nodes-fit d past due s.home).homes (decided-say d past due s.home).journal has).1 in
    let told : story d past t ≡ Some says.full.story = says.full.at.story in
    cc

pub unbegun-undecided : (d : DocumentData) (past : List Act) → AllDue d past → UnbegunUndecided d past
unbegun-undecided d past due t s is new = told-none d past t s (decision t (journal d past s.home)) due new refl

pub due-rows : (d : DocumentData) (past : List Act) (es : List Item) (h : List Act) → AllDue d past → AllTold d past
    → Rows d past es h → AllDue d (after past h)
unfolding Rows
due-rows d past [] h due told rows = rw rows due
due-rows d past (e ∷ es) h due told rows =
    let acts : List Act = row d past e rows.0 in
    let now : AllDue d (after past acts) = all-after d past acts due (due-row d past e rows.0 (answered-told d past told) (unbegun-undecided d past due)) in
    let more : AllDue d (after (after past acts) rows.1) = due-rows d (after past acts) es rows.1 now (told-row d past e rows.0 told) rows.3 in
    let P : List Act → Type 0 = λ p. AllDue d p in
    rw rows.2 (subst P (sym (after-append past acts rows.1)) more)

-- each act of a run was due
pub due-run : (d : DocumentData) (items : List Item) (h : List Act) → IsRun d items h → AllDue d (after [] h)
due-run d items h run =
    let first : List Act = start_row d.cluster.nodes run.opens in
    let due : AllDue d (after [] first) = all-after d [] first tt (due-start d d.cluster.nodes run.opens) in
    let told : AllTold d (after [] first) = untaking-all d [] first (untaking-starts run.opens (range_with_len 1 d.cluster.nodes)) (λ t s e. refl) in
    let more : AllDue d (after (after [] first) run.rest) = due-rows d (after [] first) (flat_map events_in items) run.rest due told run.rows in
    let P : List Act → Type 0 = λ p. AllDue d p in
    rw run.start (subst P (sym (after-append [] first run.rest)) more)
