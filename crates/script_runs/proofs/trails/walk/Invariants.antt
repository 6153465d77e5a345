use Rattle.std.proofs.Common.{◌≡◌, ◌+◌, drop}
use Rattle.script_runs.proofs.Walking.{Comes}
use Rattle.script_runs.proofs.trails.walk.Given as goal

abbrev pub invariant-loop-op : goal.invariant-loop-op
invariant-loop-op l = record {
  at : l.j ≡ l.op-index;
  comes : Comes l.values l.ops (l.j + 1) (drop l.op-index l.ops) l.trail;
}
