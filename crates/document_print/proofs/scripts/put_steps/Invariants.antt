use Rattle.std.proofs.Common.{◌≡◌, ◌++◌, drop}
use Rattle.std.specs.List.{flat_map}
use Rattle.history_print.specs.Acts.{spaced}
use Rattle.script_lang.specs.Spelling.{step_words}
use Rattle.document_print.proofs.scripts.put_steps.Given as goal

abbrev pub invariant-loop-step : goal.invariant-loop-step
invariant-loop-step l =
    l.out.items ++ spaced (flat_map step_words (drop l.step-index l.steps))
    ≡ l.fn.out.items ++ spaced (flat_map step_words l.steps)
