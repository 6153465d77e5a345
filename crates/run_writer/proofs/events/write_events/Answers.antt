use Rattle.std.proofs.Common.{◌≡◌, ◌≤◌, ◌++◌, Ok, Err, Some, arith, length, refl, subst, sym, take}
use Rattle.std.specs.Prelude.{slice_get}
use Rattle.std.specs.List.{flat_map}
use Rattle.std.proofs.lemmas.List.{take_all}
use Rattle.std.proofs.lemmas.Option.{slice_get_read}
use Rattle.grid_model.specs.Cuts.{events}
use Rattle.grid_model.specs.Schedules.{events_in}
use Rattle.grid_world.specs.Replays.{CanPlayAll}
use Rattle.run_writer.specs.Writing.{Writes}
use Rattle.run_writer.proofs.ForCode.{can-front, events-more, events-split}
use Rattle.run_writer.proofs.EventsWritten.{can-write-behind, err-is, writes-both, writes-early, writes-none}
use Rattle.run_writer.proofs.events.write_events.Goals as goal

pub loop-item-init : goal.loop-item-init
loop-item-init g c =
    record {
      writes = writes-none c.args.doc.now c.args.world.now (g.K.Sink.held c.args.out.now) (g.K.Sink.faults c.args.out.now);
      later = omega arith;
    }

pub write_item-requires : goal.write_item-requires
write_item-requires g c =
    let items = c.args.doc.now.items in
    let k = c.loop-item.item-index in
    let i = c.item-item.result in
    let at = subst (λ xs. slice_get xs k ≡ Some i) c.items-item-items.ensures.value
    (slice_get_read c.items-item-items.result.now (length c.items-item-items.result.now) k i refl c.loop-item-test.true c.item-item.is) in
    let split = events-split items k i at in
    can-front c.args.doc.now (events_in i) split.0 c.loop-item.world
    (can-write-behind c.args.doc.now (flat_map events_in (take k items)) (events_in i ++ split.0) c.args.world.now c.loop-item.world
    (g.K.Sink.held c.args.out.now) (g.K.Sink.held c.loop-item.out) (g.K.Sink.faults c.args.out.now) (g.K.Sink.faults c.loop-item.out)
    (subst (λ es. CanPlayAll c.args.doc.now es c.args.world.now) split.1 c.requires) c.loop-item.invariant.writes)

pub returns-in_err-write_item-clause-writes : goal.returns-in_err-write_item-clause-writes
returns-in_err-write_item-clause-writes g c =
    let items = c.args.doc.now.items in
    let k = c.loop-item.item-index in
    let i = c.item-item.result in
    let at = subst (λ xs. slice_get xs k ≡ Some i) c.items-item-items.ensures.value
    (slice_get_read c.items-item-items.result.now (length c.items-item-items.result.now) k i refl c.loop-item-test.true c.item-item.is) in
    let split = events-split items k i at in
    let why = c.in_err-write_item.field-0.0 in
    let w = c.args.world.now in
    let w' = c.write_item.new.world in
    let h0 = g.K.Sink.held c.args.out.now in
    let h1 = g.K.Sink.held c.loop-item.out in
    let h2 = g.K.Sink.held c.write_item.new.out in
    let f0 = g.K.Sink.faults c.args.out.now in
    let f1 = g.K.Sink.faults c.loop-item.out in
    let f2 = g.K.Sink.faults c.write_item.new.out in
    subst (Writes c.args.doc.now (events c.args.doc.now) w w' h0 h2 f0 f2)
    (sym (err-is c.from_residual.result why c.from_residual.ensures.0 c.from_residual.ensures.1))
    (subst (λ is. Writes c.args.doc.now is w w' h0 h2 f0 f2 (Err why)) (sym split.1)
    (writes-both c.args.doc.now (flat_map events_in (take k items)) (events_in i ++ split.0) w c.loop-item.world w' h0 h1 h2 f0 f1 f2
    (Err why) c.loop-item.invariant.writes c.loop-item.invariant.later
    (writes-early c.args.doc.now (events_in i) split.0 c.loop-item.world w' h1 h2 f1 f2 why c.in_err-write_item.ensures.writes)))

pub loop-item-preserved : goal.loop-item-preserved
loop-item-preserved g c =
    let items = c.args.doc.now.items in
    let k = c.loop-item.item-index in
    let i = c.item-item.result in
    let at = subst (λ xs. slice_get xs k ≡ Some i) c.items-item-items.ensures.value
    (slice_get_read c.items-item-items.result.now (length c.items-item-items.result.now) k i refl c.loop-item-test.true c.item-item.is) in
    let later = c.loop-item.invariant.later in
    let further = c.in_ok-write_item.ensures.later in
    let w = c.args.world.now in
    let w' = c.write_item.new.world in
    let h0 = g.K.Sink.held c.args.out.now in
    let h1 = g.K.Sink.held c.loop-item.out in
    let h2 = g.K.Sink.held c.write_item.new.out in
    let f0 = g.K.Sink.faults c.args.out.now in
    let f1 = g.K.Sink.faults c.loop-item.out in
    let f2 = g.K.Sink.faults c.write_item.new.out in
    record {
      writes = subst (λ is. Writes c.args.doc.now is w w' h0 h2 f0 f2 (Ok tt)) (sym (events-more items k i at))
          (writes-both c.args.doc.now (flat_map events_in (take k items)) (events_in i) w c.loop-item.world w' h0 h1 h2 f0 f1 f2 (Ok tt)
          c.loop-item.invariant.writes later c.in_ok-write_item.ensures.writes);
      later = omega (arith, later, further);
    }

pub returns-clause-writes : goal.returns-clause-writes
returns-clause-writes g c =
    let items = c.args.doc.now.items in
    let k = c.loop-item.item-index in
    let past = subst (λ xs. length xs ≤ k) c.items-item-items.ensures.value c.loop-item-test.false in
    subst (λ is. Writes c.args.doc.now (flat_map events_in is) c.args.world.now c.loop-item.world (g.K.Sink.held c.args.out.now)
    (g.K.Sink.held c.loop-item.out) (g.K.Sink.faults c.args.out.now) (g.K.Sink.faults c.loop-item.out) (Ok tt)) (take_all k items past)
    c.loop-item.invariant.writes
