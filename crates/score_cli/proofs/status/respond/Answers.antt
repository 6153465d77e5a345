use Rattle.score_cli.proofs.Answered.{broken-from, done-from, memory-from}
use Rattle.score_cli.proofs.status.respond.Goals as goal

pub returns-in-Ok-read_document-clause-done : goal.returns-in-Ok-read_document-clause-done
returns-in-Ok-read_document-clause-done g c =
    done-from g.D.Disk (g.S.Source.left c.args.input.now) (g.S.Source.left c.read_all.new.source) (g.K.Sink.held c.args.out.now)
    (g.K.Sink.held c.play.new.out) (g.K.Sink.faults c.args.out.now) (g.K.Sink.faults c.play.new.out) c.play.result.code
    c.in-Ok.bytes.items c.as_slice-2.result.now c.in-Ok-read_document.doc c.args.disks.now.items c.play.new.disks.items
    c.in-Ok.ensures.whole c.in-Ok.ensures.within c.as_slice-2.ensures.value c.in-Ok-read_document.ensures c.play.ensures

pub returns-in-Ok-read_document-clause-write_fault : goal.returns-in-Ok-read_document-clause-write_fault
returns-in-Ok-read_document-clause-write_fault g c =
    broken-from g.D.Disk (g.S.Source.left c.args.input.now) (g.S.Source.left c.read_all.new.source) (g.K.Sink.held c.args.out.now)
    (g.K.Sink.held c.play.new.out) (g.K.Sink.faults c.args.out.now) (g.K.Sink.faults c.play.new.out) c.play.result.code
    c.in-Ok.bytes.items c.as_slice-2.result.now c.in-Ok-read_document.doc c.args.disks.now.items c.play.new.disks.items
    c.in-Ok.ensures.whole c.in-Ok.ensures.within c.as_slice-2.ensures.value c.in-Ok-read_document.ensures c.play.ensures

pub returns-in-Ok-read_document-clause-memory : goal.returns-in-Ok-read_document-clause-memory
returns-in-Ok-read_document-clause-memory g c =
    memory-from g.D.Disk (g.S.Source.left c.args.input.now) (g.S.Source.left c.read_all.new.source) (g.K.Sink.held c.args.out.now)
    (g.K.Sink.held c.play.new.out) (g.K.Sink.faults c.args.out.now) (g.K.Sink.faults c.play.new.out) c.play.result.code
    c.in-Ok.bytes.items c.as_slice-2.result.now c.in-Ok-read_document.doc c.args.disks.now.items c.play.new.disks.items
    c.in-Ok.ensures.whole c.in-Ok.ensures.within c.as_slice-2.ensures.value c.in-Ok-read_document.ensures c.play.ensures
