use Rattle.script_runs.proofs.FirstWaiting.{Walked}
use Rattle.script_runs.proofs.waits.first_waiting.Given as goal

abbrev pub invariant-loop-i : goal.invariant-loop-i
invariant-loop-i l = Walked l.ops l.values l.i
