use Rattle.std.proofs.Common.{subst, sym}
use Rattle.grid_model.specs.Schedules.{events_in}
use Rattle.run_writer.specs.Writing.{Writes}
use Rattle.run_writer.proofs.ForCode.{one-event}
use Rattle.run_writer.proofs.events.write_item.Goals as goal

pub returns-in-Next-clause-writes : goal.returns-in-Next-clause-writes
returns-in-Next-clause-writes g c =
    subst (λ i. Writes c.args.doc.now (events_in i) c.args.world.now c.write_next.new.world (g.K.Sink.held c.args.out.now)
    (g.K.Sink.held c.write_next.new.out) (g.K.Sink.faults c.args.out.now) (g.K.Sink.faults c.write_next.new.out) c.write_next.result)
    (sym c.in-Next.is) c.write_next.ensures.writes

pub returns-in_default : goal.returns-in_default
returns-in_default g c =
    record {
      writes = subst (λ es. Writes c.args.doc.now es c.args.world.now c.write_event.new.world (g.K.Sink.held c.args.out.now)
          (g.K.Sink.held c.write_event.new.out) (g.K.Sink.faults c.args.out.now) (g.K.Sink.faults c.write_event.new.out)
          c.write_event.result) (sym (one-event c.args.item c.in_default.not-Next)) c.write_event.ensures.writes;
      later = c.write_event.ensures.later;
    }
