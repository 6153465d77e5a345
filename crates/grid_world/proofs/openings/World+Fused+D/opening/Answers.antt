use Rattle.std.proofs.Common.{◌+◌, ◌∷◌, [], sym, subst, ap, length, arith, ◌∙◌}
use Rattle.std.proofs.lemmas.List.{length-append}
use Rattle.grid_world.specs.Worlds.{HasTold}
use Rattle.grid_world.proofs.StartRows.{OpenedTo, opened-none, opened-opens, opened-next, opened-all}
use Rattle.grid_world.proofs.openings.World+Fused+D.opening.Goals as goal

pub loop-i-init : goal.loop-i-init
loop-i-init g c =
    record {
      opened = subst (OpenedTo c.args.doc.now c.args.self.now c.args.self.now) (sym c.new-acts.ensures.items)
          (opened-none c.args.doc.now c.args.self.now);
      count = ap length c.new-acts.ensures.items;
    }

pub open_first-requires : goal.open_first-requires
open_first-requires g c =
    let count = c.loop-i.invariant.count in
    let most = c.loop-i-test.true in
    let nodes = c.nodes-nodes.ensures.value ∙ ap (λ k. k.nodes) c.cluster.ensures.value in
    opened-opens c.args.doc.now c.requires.0 c.args.self.now c.loop-i.self c.loop-i.acts.items (c.loop-i.i + 1) c.requires.1
    c.loop-i.invariant.opened (omega (arith, count)) (omega (arith, most, nodes))

pub loop-i-preserved : goal.loop-i-preserved
loop-i-preserved g c =
    let count = c.loop-i.invariant.count in
    let long = ap length c.in_ok-push.ensures.ok ∙ length-append c.loop-i.acts.items (c.in_ok-act.act ∷ []) in
    record {
      opened = subst (OpenedTo c.args.doc.now c.args.self.now c.open_first.new.self) (sym c.in_ok-push.ensures.ok)
          (opened-next c.args.doc.now c.args.self.now c.loop-i.self c.open_first.new.self c.loop-i.acts.items (c.loop-i.i + 1) c.in_ok-act.act
          c.loop-i.invariant.opened c.in_ok-act.ensures (omega (arith, count)));
      count = omega (arith, long, count);
    }

pub returns : goal.returns
returns g c =
    let count = c.loop-i.invariant.count in
    let past = c.loop-i-test.false in
    let least = c.loop-i.auto.i-end in
    let nodes = c.nodes-nodes.ensures.value ∙ ap (λ k. k.nodes) c.cluster.ensures.value in
    opened-all c.args.doc.now c.args.self.now c.loop-i.self c.tell.new.self c.loop-i.acts.items c.loop-i.invariant.opened
    (omega (arith, count, past, least, nodes))
    (subst (λ xs. HasTold c.args.doc.now xs c.loop-i.self c.tell.new.self) c.as_slice.ensures.value c.in_ok-tell.ensures)
