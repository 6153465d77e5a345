use Rattle.std.proofs.Common.{◌∷◌, [], subst, sym, replicate}
use Rattle.grid_model.specs.declared.items.Item.TheVariants as item
use Rattle.grid_world.specs.Replays.{Adds, CanPlayAll}
use Rattle.grid_world.proofs.PlayedAll.{adds-none, adds-one, adds-both, can-behind, can-front, can-one, replicate-more, replicate-split}
use Rattle.grid_world.proofs.replays.World+Fused+D.play_next.Goals as goal

pub loop-i-init : goal.loop-i-init
loop-i-init g c =
    adds-none c.args.doc.now c.args.self.now c.args.acts.now.items

pub play-requires : goal.play-requires
play-requires g c =
    let split = replicate-split c.loop-i.i c.args.count (item.Next 1) c.loop-i-test.true in
    can-one c.args.doc.now (item.Next 1) c.loop-i.self
    (can-front c.args.doc.now (item.Next 1 ∷ []) (replicate split.0 (item.Next 1)) c.loop-i.self
    (can-behind c.args.doc.now (replicate c.loop-i.i (item.Next 1)) (item.Next 1 ∷ replicate split.0 (item.Next 1)) c.args.self.now
    c.loop-i.self c.loop-i.invariant.acts (subst (λ is. CanPlayAll c.args.doc.now is c.args.self.now) split.1 c.requires)
    c.loop-i.invariant.plays))

pub loop-i-preserved : goal.loop-i-preserved
loop-i-preserved g c =
    subst (λ is. Adds c.args.doc.now is c.args.self.now c.play.new.self c.args.acts.now.items c.append.new.items.items)
    (sym (replicate-more c.loop-i.i (item.Next 1)))
    (adds-both c.args.doc.now (replicate c.loop-i.i (item.Next 1)) (item.Next 1 ∷ []) c.args.self.now c.loop-i.self c.play.new.self
    c.args.acts.now.items c.loop-i.acts.items c.append.new.items.items c.loop-i.invariant
    (adds-one c.args.doc.now (item.Next 1) c.loop-i.self c.play.new.self c.loop-i.acts.items c.append.new.items.items
    c.in_ok-more.more.items c.in_ok-more.ensures c.in_ok-append.ensures.ok))
