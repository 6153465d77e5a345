use Rattle.std.proofs.Common.{Err, ap, subst, ◌∙◌}
use Rattle.run_writer.specs.Writing.{WritesText}
use Rattle.run_writer.proofs.TextWritten.{broken-left, memory-left, whole-left}
use Rattle.run_writer.proofs.runs.write_run.Goals as goal

pub into_disks-requires : goal.into_disks-requires
into_disks-requires g c =
    ((subst (WritesText c.args.doc.now c.in-Ok.world c.write_text.new.world (g.K.Sink.held c.args.out.now)
    (g.K.Sink.held c.write_text.new.out) (g.K.Sink.faults c.args.out.now) (g.K.Sink.faults c.write_text.new.out))
    c.in-Ok-write_text.is c.write_text.ensures) c.args.disks.items c.in-Ok.ensures).follows.room

pub returns-in-Ok-write_text : goal.returns-in-Ok-write_text
returns-in-Ok-write_text g c =
    whole-left c.args.doc.now c.in-Ok.world c.write_text.new.world c.args.disks.items c.into_disks.result.items
    (g.K.Sink.held c.args.out.now) (g.K.Sink.held c.write_text.new.out) (g.K.Sink.faults c.args.out.now)
    (g.K.Sink.faults c.write_text.new.out) c.in-Ok.ensures
    (subst (WritesText c.args.doc.now c.in-Ok.world c.write_text.new.world (g.K.Sink.held c.args.out.now)
    (g.K.Sink.held c.write_text.new.out) (g.K.Sink.faults c.args.out.now) (g.K.Sink.faults c.write_text.new.out))
    c.in-Ok-write_text.is c.write_text.ensures) c.into_disks.ensures

pub returns-in-Err-WriteFault : goal.returns-in-Err-WriteFault
returns-in-Err-WriteFault g c =
    broken-left c.args.doc.now c.in-Ok.world c.write_text.new.world c.args.disks.items
    c.into_disks-in-Err-WriteFault.result.items (g.K.Sink.held c.args.out.now) (g.K.Sink.held c.write_text.new.out)
    (g.K.Sink.faults c.args.out.now) (g.K.Sink.faults c.write_text.new.out) c.in-Ok.ensures
    (subst (WritesText c.args.doc.now c.in-Ok.world c.write_text.new.world (g.K.Sink.held c.args.out.now)
    (g.K.Sink.held c.write_text.new.out) (g.K.Sink.faults c.args.out.now) (g.K.Sink.faults c.write_text.new.out))
    (c.in-Err-WriteFault.is ∙ ap Err c.in-Err-WriteFault.field-0-is) c.write_text.ensures) c.into_disks-in-Err-WriteFault.ensures

pub returns-in-Err-Memory : goal.returns-in-Err-Memory
returns-in-Err-Memory g c =
    memory-left c.args.doc.now c.in-Ok.world c.write_text.new.world c.args.disks.items (g.K.Sink.held c.args.out.now)
    (g.K.Sink.held c.write_text.new.out) (g.K.Sink.faults c.args.out.now) (g.K.Sink.faults c.write_text.new.out) c.in-Ok.ensures
    (subst (WritesText c.args.doc.now c.in-Ok.world c.write_text.new.world (g.K.Sink.held c.args.out.now)
    (g.K.Sink.held c.write_text.new.out) (g.K.Sink.faults c.args.out.now) (g.K.Sink.faults c.write_text.new.out))
    (c.in-Err-Memory.is ∙ ap Err c.in-Err-Memory.field-0-is) c.write_text.ensures)
