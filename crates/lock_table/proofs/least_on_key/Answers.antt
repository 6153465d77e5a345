use Rattle.std.proofs.Common.{arith}
use Rattle.std.proofs.lemmas.Grind.{common_steps}
use Rattle.lock_table.proofs.Runs.{blocks_from, first_blocks, past_key, past_all}
use Rattle.lock_table.proofs.least_on_key.Goals as goal

pub loop-i-init : goal.loop-i-init
loop-i-init c =
    let start = c.first_on_key-i.ensures.start in
    record {
      above = start.above;
      left = λ u other. blocks_from c.args.writes c.args.locks.now.pairs c.first_on_key-i.result u c.args.key.now start.within start.below;
    }

pub returns-then-ne : goal.returns-then-ne
returns-then-ne c =
    past_key c.args.writes c.args.locks.now.pairs c.loop-i.i c.pair-lock.result c.args.t c.args.key.now
    c.first_on_key-i.ensures.rising (grind (arith, common_steps)) c.pair-lock.ensures
    (c.loop-i.invariant.above c.loop-i.i c.pair-lock.result (grind arith) (grind (arith, common_steps)))
    (grind (arith, common_steps)) c.loop-i.invariant.left

pub returns-then-lock : goal.returns-then-lock
returns-then-lock c =
    first_blocks c.args.writes c.args.locks.now.pairs c.loop-i.i c.pair-lock.result c.args.t c.args.key.now
    c.first_on_key-i.ensures.rising (grind (arith, common_steps)) c.pair-lock.ensures
    (grind (arith, common_steps)) (grind (arith, common_steps)) (grind (arith, common_steps)) c.loop-i.invariant.left

pub returns : goal.returns
returns c =
    past_all c.args.writes c.args.locks.now.pairs c.loop-i.i c.args.t c.args.key.now
    (grind (arith, common_steps)) c.loop-i.invariant.left
