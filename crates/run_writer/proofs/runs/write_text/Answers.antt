use Rattle.std.proofs.Common.{subst, sym}
use Rattle.std.specs.Prelude.{IsErrOf, OnOk}
use Rattle.std.specs.Io.KnownBytes.{Appends}
use Rattle.score_io.specs.Streams.{AppendsPart}
use Rattle.run_tally.specs.Texts.{TallyText}
use Rattle.text_parts.specs.declared.parts.PartEnd.TheVariants.{WriteFault}
use Rattle.run_writer.specs.Writing.{WritesText}
use Rattle.run_writer.proofs.EventsWritten.{err-is}
use Rattle.run_writer.proofs.TextWritten.{can-write-all, text-early, text-ends, text-writes}
use Rattle.run_writer.proofs.runs.write_text.Goals as goal

pub returns-in_err-write_start : goal.returns-in_err-write_start
returns-in_err-write_start g c =
    let w = c.args.world.now in
    let w' = c.write_start.new.world in
    let h0 = g.K.Sink.held c.args.out.now in
    let h1 = g.K.Sink.held c.write_start.new.out in
    let f0 = g.K.Sink.faults c.args.out.now in
    let f1 = g.K.Sink.faults c.write_start.new.out in
    let why = c.in_err-write_start.field-0.0 in
    subst (WritesText c.args.doc.now w w' h0 h1 f0 f1)
    (sym (err-is c.from_residual.result why c.from_residual.ensures.0 c.from_residual.ensures.1))
    (text-early c.args.doc.now w w' h0 h1 f0 f1 why c.in_err-write_start.ensures.writes)

pub write_events-requires : goal.write_events-requires
write_events-requires g c =
    can-write-all c.args.doc.now c.args.world.now c.write_start.new.world (g.K.Sink.held c.args.out.now)
    (g.K.Sink.held c.write_start.new.out) (g.K.Sink.faults c.args.out.now) (g.K.Sink.faults c.write_start.new.out) c.requires
    c.in_ok-write_start.ensures.writes

pub returns-in_err-write_events : goal.returns-in_err-write_events
returns-in_err-write_events g c =
    let w = c.args.world.now in
    let w' = c.write_events.new.world in
    let h0 = g.K.Sink.held c.args.out.now in
    let h1 = g.K.Sink.held c.write_start.new.out in
    let h2 = g.K.Sink.held c.write_events.new.out in
    let f0 = g.K.Sink.faults c.args.out.now in
    let f1 = g.K.Sink.faults c.write_start.new.out in
    let f2 = g.K.Sink.faults c.write_events.new.out in
    let why = c.in_err-write_events.field-0.0 in
    subst (WritesText c.args.doc.now w w' h0 h2 f0 f2)
    (sym (err-is c.from_residual-in_err-write_events.result why c.from_residual-in_err-write_events.ensures.0
    c.from_residual-in_err-write_events.ensures.1))
    (text-ends c.args.doc.now w c.write_start.new.world w' h0 h1 h2 f0 f1 f2 why c.in_ok-write_start.ensures.writes
    c.in_ok-write_start.ensures.later c.in_err-write_events.ensures.writes)

pub returns : goal.returns
returns g c =
    let w = c.args.world.now in
    let w' = c.write_events.new.world in
    let h0 = g.K.Sink.held c.args.out.now in
    let h1 = g.K.Sink.held c.write_start.new.out in
    let h2 = g.K.Sink.held c.write_events.new.out in
    let h3 = g.K.Sink.held c.write_tally.new.out in
    let f0 = g.K.Sink.faults c.args.out.now in
    let f1 = g.K.Sink.faults c.write_start.new.out in
    let f2 = g.K.Sink.faults c.write_events.new.out in
    let f3 = g.K.Sink.faults c.write_tally.new.out in
    let r = c.write_tally.result in
    text-writes c.args.doc.now w c.write_start.new.world w' h0 h1 h2 h3 f0 f1 f2 f3 r c.in_ok-write_start.ensures.writes
    c.in_ok-write_start.ensures.later c.in_ok-write_events.ensures.writes c.in_ok-write_events.ensures.later
    (subst (λ t. OnOk r (Appends h2 h3 (TallyText c.args.doc.now t))) c.tally.ensures c.write_tally.ensures.all)
    (subst (λ t. IsErrOf r WriteFault → AppendsPart h2 h3 (TallyText c.args.doc.now t)) c.tally.ensures c.write_tally.ensures.part)
    c.write_tally.ensures.fault c.write_tally.ensures.kept
