use Rattle.run_tally.specs.Texts.{told_key}
use Rattle.run_tally.proofs.ForCode.{put_more}
use Rattle.run_tally.proofs.text.put_holder_lines.Goals as goal

pub loop-i-preserved : goal.loop-i-preserved
loop-i-preserved c =
    put_more (told_key c.args.cluster.now c.args.tally.now c.args.key.now) c.loop-i.out.items
    c.put_key_line.new.out.items _ c.loop-i.i c.args.count c.loop-i-test.true c.in_ok-put_key_line.ensures
    c.loop-i.invariant
