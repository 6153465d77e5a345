use Rattle.std.proofs.Common.{◌≡◌, ◌<◌, ◌∷◌, [], ◌++◌, sym, ap, subst, arith, length, ◌∙◌, append_assoc}
use Rattle.std.specs.Prelude.{vec_capacity}
use Rattle.std.specs.Vec.Iter.{into_iter_items}
use Rattle.std.proofs.lemmas.List.{append-nil, length-append}
use Rattle.grid_world.proofs.Ended.{disks-length, length-none}
use Rattle.grid_world.proofs.worlds.World+Fused+D.into_disks.Goals as goal

pub loop-disk-init : goal.loop-disk-init
loop-disk-init g c =
    let gives = c.into_iter-disk-iterator.ensures.into_iter_gives.0 in
    let given = c.give_up-disks.ensures.items in
    let count = disks-length c.args.self.hosts.items given.disks given.are in
    let long = ap length (given.behind ∙ ap (λ xs. xs ++ given.disks) c.requires.none) in
    let same = ap length gives in
    let room = c.requires.room in
    let capacity = c.give_up-disks.ensures.room in
    record {
      all = ap (λ xs. c.give_up-disks.result.items ++ xs) gives;
      room = omega (arith, count, long, same, room, capacity);
    }

pub push_reserved-requires : goal.push_reserved-requires
push_reserved-requires g c =
    let room = c.loop-disk.invariant.room in
    let step = ap length c.in-Some.ensures.steps.0 in
    let same = c.loop-disk.disks.ok in
    let wide : length c.loop-disk.disks.items < vec_capacity c.loop-disk.disks = omega (arith, room, step) in
    subst (λ k. k < vec_capacity c.loop-disk.disks) (sym same.0) wide

pub loop-disk-preserved : goal.loop-disk-preserved
loop-disk-preserved g c =
    let step = c.in-Some.ensures.steps.0 in
    let one = c.push_reserved.ensures.items in
    let wide = c.push_reserved.ensures.capacity in
    let long = ap length one ∙ length-append c.loop-disk.disks.items (c.in-Some.disk ∷ []) in
    let fewer = ap length step in
    let room = c.loop-disk.invariant.room in
    let rest = into_iter_items c.next.new.self in
    record {
      all = ap (λ xs. xs ++ rest) one ∙ append_assoc c.loop-disk.disks.items (c.in-Some.disk ∷ []) rest
          ∙ ap (λ xs. c.loop-disk.disks.items ++ xs) (sym step) ∙ c.loop-disk.invariant.all;
      room = omega (arith, long, fewer, wide, room);
    }

pub returns : goal.returns
returns g c =
    let done = c.in-None.ensures.steps in
    let same = c.loop-disk.disk-iterator.rest.ok in
    let given = c.give_up-disks.ensures.items in
    let rest = into_iter_items c.loop-disk.disk-iterator in
    let none : rest ≡ [] = length-none rest (sym same.0 ∙ done.0) in
    record {
      of_nodes = given.disks;
      are = given.are;
      all = sym (append-nil c.loop-disk.disks.items) ∙ ap (λ xs. c.loop-disk.disks.items ++ xs) (sym none)
          ∙ c.loop-disk.invariant.all
          ∙ ap (λ xs. xs ++ c.args.self.rest.items) (given.behind ∙ ap (λ xs. xs ++ given.disks) c.requires.none);
    }
