use Rattle.std.proofs.Common.{◌+◌, take, drop, arith}
use Rattle.std.proofs.lemmas.Grind.{common_steps}
use Rattle.script_lang.proofs.Seen.{remote_told}
use Rattle.script_lang.proofs.reads.read_keys.Goals as goal

pub loop-i-preserved : goal.loop-i-preserved
loop-i-preserved c =
    let ops = c.ops-ops.result.now in
    let i = c.loop-i.i in
    remote_told (take i ops) (take (i + 1) ops) (drop i ops) (drop (i + 1) ops) c.index-ops-i.result _ _ _ (grind (arith, common_steps)) (grind (arith, common_steps)) c.loop-i.invariant c.in_ok-push_remote.ensures
