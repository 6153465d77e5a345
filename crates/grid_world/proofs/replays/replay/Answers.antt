use Rattle.std.proofs.Common.{◌≡◌, ◌≤◌, length, refl, subst, sym, arith, Some}
use Rattle.std.specs.Prelude.{slice_get, sum_by}
use Rattle.std.specs.List.{flat_map}
use Rattle.std.proofs.lemmas.List.{take_all}
use Rattle.std.proofs.lemmas.Option.{slice_get_read}
use Rattle.std.proofs.Common.{take, ◌++◌}
use Rattle.grid_model.specs.Documents.{events_of}
use Rattle.grid_model.specs.Schedules.{events_in}
use Rattle.grid_world.specs.Replays.{Adds, CanPlayAll}
use Rattle.grid_world.proofs.PlayedAll.{adds-none, adds-both, all-played, can-all, can-behind, can-front, events-more, events-split}
use Rattle.grid_world.proofs.Ended.{ended-replays}
use Rattle.grid_world.proofs.replays.replay.Goals as goal

pub loop-item-init : goal.loop-item-init
loop-item-init g c =
    adds-none c.args.doc.now c.opening.new.self c.in_ok-acts.acts.items

pub play_item-requires : goal.play_item-requires
play_item-requires g c =
    let items = c.args.doc.now.items in
    let k = c.loop-item.item-index in
    let i = c.item-item.result in
    let at = subst (λ xs. slice_get xs k ≡ Some i) c.items-item-items.ensures.value
    (slice_get_read c.items-item-items.result.now (length c.items-item-items.result.now) k i refl c.loop-item-test.true c.item-item.is) in
    let split = events-split items k i at in
    can-front c.args.doc.now (events_in i) split.0 c.loop-item.world
    (can-behind c.args.doc.now (flat_map events_in (take k items)) (events_in i ++ split.0) c.opening.new.self c.loop-item.world
    c.loop-item.invariant.acts
    (subst (λ es. CanPlayAll c.args.doc.now es c.opening.new.self) split.1
    (can-all c.args.doc.now c.args.disks.items c.in_ok-world.world c.opening.new.self c.in_ok-acts.acts.items
    c.in_ok-world.ensures c.in_ok-acts.ensures))
    c.loop-item.invariant.plays)

pub loop-item-preserved : goal.loop-item-preserved
loop-item-preserved g c =
    let items = c.args.doc.now.items in
    let k = c.loop-item.item-index in
    let i = c.item-item.result in
    let at = subst (λ xs. slice_get xs k ≡ Some i) c.items-item-items.ensures.value
    (slice_get_read c.items-item-items.result.now (length c.items-item-items.result.now) k i refl c.loop-item-test.true c.item-item.is) in
    subst (λ es. Adds c.args.doc.now es c.opening.new.self c.play_item.new.self c.in_ok-acts.acts.items c.play_item.new.acts.items)
    (sym (events-more items k i at))
    (adds-both c.args.doc.now (flat_map events_in (take k items)) (events_in i) c.opening.new.self c.loop-item.world
    c.play_item.new.self c.in_ok-acts.acts.items c.loop-item.acts.items c.play_item.new.acts.items c.loop-item.invariant
    c.in_ok-play_item.ensures)

pub into_disks-requires : goal.into_disks-requires
into_disks-requires g c =
    let items = c.args.doc.now.items in
    let k = c.loop-item.item-index in
    let past = subst (λ xs. length xs ≤ k) c.items-item-items.ensures.value c.loop-item-test.false in
    let all = subst (λ is. Adds c.args.doc.now (flat_map events_in is) c.opening.new.self c.loop-item.world c.in_ok-acts.acts.items
    c.loop-item.acts.items) (take_all k items past) c.loop-item.invariant in
    (all-played c.args.doc.now c.args.disks.items c.in_ok-world.world c.opening.new.self c.loop-item.world c.in_ok-acts.acts.items
    c.loop-item.acts.items c.in_ok-world.ensures c.in_ok-acts.ensures all).room

pub returns : goal.returns
returns g c =
    let items = c.args.doc.now.items in
    let k = c.loop-item.item-index in
    let past = subst (λ xs. length xs ≤ k) c.items-item-items.ensures.value c.loop-item-test.false in
    let all = subst (λ is. Adds c.args.doc.now (flat_map events_in is) c.opening.new.self c.loop-item.world c.in_ok-acts.acts.items
    c.loop-item.acts.items) (take_all k items past) c.loop-item.invariant in
    ended-replays c.args.doc.now (sum_by events_of items) c.loop-item.acts.items c.args.disks.items c.into_disks.result.items
    c.loop-item.world c.items-item-items.ensures.one
    (all-played c.args.doc.now c.args.disks.items c.in_ok-world.world c.opening.new.self c.loop-item.world c.in_ok-acts.acts.items
    c.loop-item.acts.items c.in_ok-world.ensures c.in_ok-acts.ensures all)
    (omega arith) c.into_disks.ensures
