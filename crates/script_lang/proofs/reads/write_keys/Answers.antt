use Rattle.std.proofs.Common.{◌+◌, drop, arith}
use Rattle.std.proofs.lemmas.Grind.{common_steps}
use Rattle.script_lang.proofs.Seen.{written_told}
use Rattle.script_lang.proofs.reads.write_keys.Goals as goal

pub loop-op-preserved : goal.loop-op-preserved
loop-op-preserved c = written_told (drop c.loop-op.op-index c.ops-ops.result.now) (drop (c.loop-op.op-index + 1) c.ops-ops.result.now) c.op-item.result _ _ _ (grind (arith, common_steps)) c.loop-op.invariant c.in_ok-push_written.ensures
