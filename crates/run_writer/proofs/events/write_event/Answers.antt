use Rattle.std.proofs.Common.{◌∷◌, [], sym, subst}
use Rattle.std.proofs.KnownBytes.{Keeps-refl}
use Rattle.grid_world.specs.Follows.{Plays}
use Rattle.run_writer.proofs.EventsWritten.{event-stops, event-writes}
use Rattle.run_writer.proofs.events.write_event.Goals as goal

pub returns-in-Ok-clause-writes : goal.returns-in-Ok-clause-writes
returns-in-Ok-clause-writes g c =
    event-writes c.args.doc.now c.args.event c.args.world.now c.play.new.self (g.K.Sink.held c.args.out.now)
    (g.K.Sink.held c.write_acts.new.out) (g.K.Sink.faults c.args.out.now) (g.K.Sink.faults c.write_acts.new.out)
    c.as_slice.result.now c.write_acts.result
    (subst (Plays c.args.doc.now c.args.event c.args.world.now c.play.new.self) (sym c.as_slice.ensures.value) c.in-Ok.ensures)
    c.write_acts.ensures.all c.write_acts.ensures.part c.write_acts.ensures.fault c.write_acts.ensures.kept

pub returns-in-Err-clause-writes : goal.returns-in-Err-clause-writes
returns-in-Err-clause-writes g c =
    event-stops c.args.doc.now (c.args.event ∷ []) c.args.world.now c.play.new.self (g.K.Sink.held c.args.out.now)
    (g.K.Sink.held c.args.out.now) (g.K.Sink.faults c.args.out.now) (g.K.Sink.faults c.args.out.now)
    (Keeps-refl (g.K.Sink.held c.args.out.now))
