use Rattle.std.proofs.Common.{◌≡◌, drop}
use Rattle.script_runs.specs.Waits.{value_taken}
use Rattle.script_runs.proofs.waits.value_taken.Given as goal

abbrev pub invariant-loop-pair : goal.invariant-loop-pair
invariant-loop-pair l = value_taken l.op (drop l.pair-index l.values) ≡ value_taken l.op l.values
