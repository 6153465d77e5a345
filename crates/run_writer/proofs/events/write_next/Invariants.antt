use Rattle.std.proofs.Common.{◌≤◌, Ok, replicate}
use Rattle.grid_model.specs.declared.items.Item.TheVariants as item
use Rattle.run_writer.specs.Writing.{Writes}
use Rattle.run_writer.proofs.events.write_next.Given as goal

abbrev pub invariant-loop-i : goal.invariant-loop-i
invariant-loop-i g l = record {
  writes : Writes l.doc (replicate l.i (item.Next 1)) l.fn.world l.world (g.K.Sink.held l.fn.out) (g.K.Sink.held l.out)
      (g.K.Sink.faults l.fn.out) (g.K.Sink.faults l.out) (Ok tt);
  later : g.K.Sink.faults l.fn.out ≤ g.K.Sink.faults l.out;
}
