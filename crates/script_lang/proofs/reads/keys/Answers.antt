use Rattle.std.proofs.Common.{◌+◌, drop, arith}
use Rattle.std.proofs.lemmas.Grind.{common_steps}
use Rattle.script_lang.proofs.Seen.{distinct_told}
use Rattle.script_lang.proofs.reads.keys.Goals as goal

pub loop-op-preserved : goal.loop-op-preserved
loop-op-preserved c = distinct_told _ (drop (c.loop-op.op-index + 1) c.ops-ops.result.now) c.op-item.result _ _ _ (grind (arith, common_steps)) c.loop-op.invariant (rw c.key_of.ensures at c.in_ok-push_new.ensures)
