use Rattle.std.proofs.Common.{◌≡◌, drop, is_some}
use Rattle.script_runs.specs.Waits.{value_taken}
use Rattle.script_runs.proofs.waits.is_value_taken.Given as goal

abbrev pub invariant-loop-pair : goal.invariant-loop-pair
invariant-loop-pair l = is_some (value_taken l.op (drop l.pair-index l.values)) ≡ is_some (value_taken l.op l.values)
