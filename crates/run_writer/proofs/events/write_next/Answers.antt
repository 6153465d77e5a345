use Rattle.std.proofs.Common.{◌≡◌, ◌∷◌, [], Ok, Err, arith, subst, sym, replicate}
use Rattle.grid_model.specs.declared.items.Item.TheVariants as item
use Rattle.grid_world.specs.Replays.{CanPlayAll}
use Rattle.run_writer.specs.Writing.{Writes}
use Rattle.run_writer.proofs.ForCode.{can-front, can-one, replicate-more, replicate-split}
use Rattle.run_writer.proofs.EventsWritten.{can-write-behind, err-is, writes-both, writes-early, writes-none}
use Rattle.run_writer.proofs.events.write_next.Goals as goal

pub loop-i-init : goal.loop-i-init
loop-i-init g c =
    record {
      writes = writes-none c.args.doc.now c.args.world.now (g.K.Sink.held c.args.out.now) (g.K.Sink.faults c.args.out.now);
      later = omega arith;
    }

pub write_event-requires : goal.write_event-requires
write_event-requires g c =
    let split = replicate-split c.loop-i.i c.args.count (item.Next 1) c.loop-i-test.true in
    can-one c.args.doc.now (item.Next 1) c.loop-i.world
    (can-front c.args.doc.now (item.Next 1 ∷ []) (replicate split.0 (item.Next 1)) c.loop-i.world
    (can-write-behind c.args.doc.now (replicate c.loop-i.i (item.Next 1)) (item.Next 1 ∷ replicate split.0 (item.Next 1))
    c.args.world.now c.loop-i.world (g.K.Sink.held c.args.out.now) (g.K.Sink.held c.loop-i.out)
    (g.K.Sink.faults c.args.out.now) (g.K.Sink.faults c.loop-i.out)
    (subst (λ is. CanPlayAll c.args.doc.now is c.args.world.now) split.1 c.requires) c.loop-i.invariant.writes))

pub returns-in_err-write_event-clause-writes : goal.returns-in_err-write_event-clause-writes
returns-in_err-write_event-clause-writes g c =
    let why = c.in_err-write_event.field-0.0 in
    let w = c.args.world.now in
    let w' = c.write_event.new.world in
    let h0 = g.K.Sink.held c.args.out.now in
    let h1 = g.K.Sink.held c.loop-i.out in
    let h2 = g.K.Sink.held c.write_event.new.out in
    let f0 = g.K.Sink.faults c.args.out.now in
    let f1 = g.K.Sink.faults c.loop-i.out in
    let f2 = g.K.Sink.faults c.write_event.new.out in
    let split = replicate-split c.loop-i.i c.args.count (item.Next 1) c.loop-i-test.true in
    subst (Writes c.args.doc.now (replicate c.args.count (item.Next 1)) w w' h0 h2 f0 f2)
    (sym (err-is c.from_residual.result why c.from_residual.ensures.0 c.from_residual.ensures.1))
    (subst (λ is. Writes c.args.doc.now is w w' h0 h2 f0 f2 (Err why)) (sym split.1)
    (writes-both c.args.doc.now (replicate c.loop-i.i (item.Next 1)) (item.Next 1 ∷ replicate split.0 (item.Next 1)) w c.loop-i.world w'
    h0 h1 h2 f0 f1 f2 (Err why) c.loop-i.invariant.writes c.loop-i.invariant.later
    (writes-early c.args.doc.now (item.Next 1 ∷ []) (replicate split.0 (item.Next 1)) c.loop-i.world w' h1 h2 f1 f2 why
    c.in_err-write_event.ensures.writes)))

pub loop-i-preserved : goal.loop-i-preserved
loop-i-preserved g c =
    let later = c.loop-i.invariant.later in
    let further = c.in_ok-write_event.ensures.later in
    record {
      writes = subst (λ is. Writes c.args.doc.now is c.args.world.now c.write_event.new.world (g.K.Sink.held c.args.out.now)
          (g.K.Sink.held c.write_event.new.out) (g.K.Sink.faults c.args.out.now) (g.K.Sink.faults c.write_event.new.out) (Ok tt))
          (sym (replicate-more c.loop-i.i (item.Next 1)))
          (writes-both c.args.doc.now (replicate c.loop-i.i (item.Next 1)) (item.Next 1 ∷ []) c.args.world.now c.loop-i.world
          c.write_event.new.world (g.K.Sink.held c.args.out.now) (g.K.Sink.held c.loop-i.out) (g.K.Sink.held c.write_event.new.out)
          (g.K.Sink.faults c.args.out.now) (g.K.Sink.faults c.loop-i.out) (g.K.Sink.faults c.write_event.new.out) (Ok tt)
          c.loop-i.invariant.writes later c.in_ok-write_event.ensures.writes);
      later = omega (arith, later, further);
    }

pub returns-clause-writes : goal.returns-clause-writes
returns-clause-writes g c =
    let past = c.loop-i-test.false in
    let end = c.loop-i.auto.i-end in
    let all : c.loop-i.i ≡ c.args.count = omega (arith, past, end) in
    subst (λ k. Writes c.args.doc.now (replicate k (item.Next 1)) c.args.world.now c.loop-i.world (g.K.Sink.held c.args.out.now)
    (g.K.Sink.held c.loop-i.out) (g.K.Sink.faults c.args.out.now) (g.K.Sink.faults c.loop-i.out) (Ok tt)) all
    c.loop-i.invariant.writes
