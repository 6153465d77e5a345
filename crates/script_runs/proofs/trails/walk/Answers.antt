use Rattle.std.proofs.Common.{◌+◌, ◌∙◌, refl, sym, arith}
use Rattle.script_runs.proofs.Walking.{comes-first, ready-at, more-at}
use Rattle.script_runs.proofs.trails.walk.Goals as goal

pub loop-op-init : goal.loop-op-init
loop-op-init c = record { at = refl; comes = comes-first c.args.values.now c.ops-ops.result.now c.new-trail.result c.ops-ops.ensures.body c.new-trail.ensures }

pub step-requires : goal.step-requires
step-requires c = ready-at _ _ c.loop-op.op-index _ _ c.loop-op.trail c.loop-op-test.true c.op-item.is c.loop-op.invariant.comes

pub loop-op-preserved : goal.loop-op-preserved
loop-op-preserved c = record {
  at = omega arith;
  comes = more-at c.args.values.now c.ops-ops.result.now c.loop-op.op-index (c.loop-op.j + 1) c.op-item.result c.loop-op.trail c.step.new.self c.loop-op-test.true c.op-item.is c.loop-op.invariant.comes (sym c.stops.ensures ∙ c.if-stops.false) c.in_ok-step.ensures;
}
