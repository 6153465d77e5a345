use Rattle.std.proofs.Common.{◌≡◌, drop, true}
use Rattle.std.specs.FinMap as map
use Rattle.script_lang.specs.Exprs.{steps_value, expr_value, all_in_steps}
use Rattle.script_lang.specs.Values.{value_in}
use Rattle.script_lang.proofs.values.eval.Given as goal

abbrev pub invariant-loop-step : goal.invariant-loop-step
invariant-loop-step l = record {
  told : steps_value (value_in l.reads) l.value (drop l.step-index l.expr.steps) ≡ expr_value (value_in l.reads) l.expr;
  has : all_in_steps (map.contains_key l.reads) (drop l.step-index l.expr.steps) ≡ true;
}
