use Rattle.std.proofs.Common.{◌≡◌, ℕ, List, reverse, arith}
use Rattle.std.proofs.lemmas.Grind.{common_steps}
use Rattle.std.specs.Option.{option_copied, option_map}
use Rattle.score_base.specs.declared.records.Record.{Record}
use Rattle.journal_words.specs.Journals.{is_closed, later_decision}
use Rattle.grid_model.specs.Stories.{skipped_in}
use Rattle.history_print.proofs.Phases.{story_same}
use Rattle.history_print.proofs.summary.put_phase.Goals as goal

pub returns : goal.returns
returns c =
    let k : ℕ = skipped_in (option_copied c.args.story) in
    let r : List Record = reverse c.args.records.now in
    let f : c.later_final-final_ident.result ≡ option_map (λ d. d.final) (later_decision k c.args.script.now.number r) = grind (arith, common_steps, c.later_final-final_ident.ensures, c.skipped_in-times.ensures, c.script.view_is) in
    rw (← story_same c.args.script.now.ops (option_copied c.args.story) (is_closed c.args.script.now.number r) (later_decision k c.args.script.now.number r), ← f, ← c.ops.ensures.value) c.put_story.ensures
