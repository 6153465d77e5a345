use Rattle.std.proofs.Common.{sym, subst}
use Rattle.grid_world.specs.Starts.{Opens}
use Rattle.run_writer.proofs.TextWritten.{start-writes}
use Rattle.run_writer.proofs.events.write_start.Goals as goal

pub returns-in-Ok-clause-writes : goal.returns-in-Ok-clause-writes
returns-in-Ok-clause-writes g c =
    start-writes c.args.doc.now c.args.world.now c.opening.new.self (g.K.Sink.held c.args.out.now)
    (g.K.Sink.held c.write_acts.new.out) (g.K.Sink.faults c.args.out.now) (g.K.Sink.faults c.write_acts.new.out)
    c.as_slice.result.now c.write_acts.result
    (subst (Opens c.args.doc.now c.args.world.now c.opening.new.self) (sym c.as_slice.ensures.value) c.in-Ok.ensures)
    c.write_acts.ensures.all c.write_acts.ensures.part c.write_acts.ensures.fault c.write_acts.ensures.kept
