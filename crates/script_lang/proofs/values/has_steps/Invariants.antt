use Rattle.std.proofs.Common.{◌≡◌, drop}
use Rattle.std.specs.FinMap as map
use Rattle.script_lang.specs.Exprs.{all_in_steps}
use Rattle.script_lang.proofs.values.has_steps.Given as goal

abbrev pub invariant-loop-step : goal.invariant-loop-step
invariant-loop-step l =
    all_in_steps (map.contains_key l.reads) (drop l.step-index l.steps)
    ≡ all_in_steps (map.contains_key l.reads) l.steps
