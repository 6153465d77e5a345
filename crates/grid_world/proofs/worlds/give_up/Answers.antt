use Rattle.std.proofs.Common.{◌+◌, ◌*◌, ◌≤◌, ◌∷◌, [], ◌++◌, refl, sym, ap, subst, arith, length, ◌∙◌}
use Rattle.std.specs.Prelude.{vec_capacity}
use Rattle.std.specs.Vec.Iter.{into_iter_items}
use Rattle.std.proofs.lemmas.List.{length-append}
use Rattle.grid_world.proofs.Ended.{GivenUpTo, given-none, given-next}
use Rattle.grid_world.proofs.worlds.give_up.Goals as goal

pub loop-host-init : goal.loop-host-init
loop-host-init g c =
    let gives = c.into_iter-host-iterator.ensures.into_iter_gives.0 in
    record {
      room = subst (λ xs. length c.args.disks.items + 2 * length xs ≤ vec_capacity c.args.disks) (sym gives) c.requires;
      capacity = refl;
      given = subst (λ xs. GivenUpTo c.args.hosts.items xs c.args.disks.items c.args.disks.items) (sym gives)
          (given-none c.args.hosts.items c.args.disks.items);
    }

pub loop-host-preserved : goal.loop-host-preserved
loop-host-preserved g c =
    let first = c.into_disks-first.result.0 in
    let second = c.into_disks-first.result.1 in
    let rest = into_iter_items c.next.new.self in
    let step = c.in-Some.ensures.steps.0 in
    let one = c.push_reserved.ensures.items in
    let two = c.push_reserved-in-loop-host.ensures.items in
    let wide = c.push_reserved.ensures.capacity in
    let wider = c.push_reserved-in-loop-host.ensures.capacity in
    let long = ap length one ∙ length-append c.loop-host.disks.items (first ∷ []) in
    let longer = ap length two ∙ length-append c.push_reserved.new.self.items (second ∷ []) in
    let fewer = ap length step in
    let room = c.loop-host.invariant.room in
    record {
      room = omega (arith, long, longer, fewer, wide, wider, room);
      capacity = wider ∙ wide ∙ c.loop-host.invariant.capacity;
      given = subst (GivenUpTo c.args.hosts.items rest c.args.disks.items) (sym (two ∙ ap (λ xs. xs ++ second ∷ []) one))
          (given-next c.args.hosts.items c.in-Some.host rest c.args.disks.items c.loop-host.disks.items first second
          (subst (λ xs. GivenUpTo c.args.hosts.items xs c.args.disks.items c.loop-host.disks.items) step c.loop-host.invariant.given)
          c.into_disks-first.ensures);
    }
