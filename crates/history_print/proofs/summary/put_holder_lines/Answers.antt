use Rattle.grid_model.specs.Nodes.{journal}
use Rattle.run_state.specs.Kept.{past}
use Rattle.history_print.specs.Text.{holder_line}
use Rattle.history_print.proofs.Ranges.{put_more}
use Rattle.history_print.proofs.summary.put_holder_lines.Goals as goal

pub loop-i-preserved : goal.loop-i-preserved
loop-i-preserved c = put_more (holder_line c.args.cluster.now (journal c.args.run.now.doc (past c.args.run.now)) c.args.key.now) c.loop-i.out.items c.put_holder_line.new.out.items _ c.loop-i.i c.args.count c.loop-i-test.true c.in_ok-put_holder_line.ensures c.loop-i.invariant
