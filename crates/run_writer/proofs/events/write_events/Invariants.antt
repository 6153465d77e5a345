use Rattle.std.proofs.Common.{◌≤◌, Ok, take}
use Rattle.std.specs.List.{flat_map}
use Rattle.grid_model.specs.Schedules.{events_in}
use Rattle.run_writer.specs.Writing.{Writes}
use Rattle.run_writer.proofs.events.write_events.Given as goal

abbrev pub invariant-loop-item : goal.invariant-loop-item
invariant-loop-item g l = record {
  writes : Writes l.doc (flat_map events_in (take l.item-index l.doc.items)) l.fn.world l.world (g.K.Sink.held l.fn.out)
      (g.K.Sink.held l.out) (g.K.Sink.faults l.fn.out) (g.K.Sink.faults l.out) (Ok tt);
  later : g.K.Sink.faults l.fn.out ≤ g.K.Sink.faults l.out;
}
