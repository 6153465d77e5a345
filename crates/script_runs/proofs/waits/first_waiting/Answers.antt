use Rattle.std.proofs.Common.{◌≡◌, ◌+◌, take, false, arith}
use Rattle.std.proofs.lemmas.Grind.{common_steps}
use Rattle.script_runs.specs.Waits.{is_waiting}
use Rattle.script_runs.proofs.FirstWaiting.{Walked-more}
use Rattle.script_runs.proofs.waits.first_waiting.Goals as goal

pub loop-i-preserved : goal.loop-i-preserved
loop-i-preserved c =
    let w : is_waiting c.args.values.now (c.loop-i.i + 1) (take c.loop-i.i c.args.ops.now) c.index-ops-i.result ≡ false = grind (arith, common_steps, c.if-waits.ensures) in
    Walked-more c.args.ops.now c.args.values.now c.loop-i.i c.index-ops-i.result c.loop-i-test.true c.index-ops-i.is c.loop-i.invariant w
