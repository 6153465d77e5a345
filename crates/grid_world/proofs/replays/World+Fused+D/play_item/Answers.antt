use Rattle.std.proofs.Common.{subst, sym}
use Rattle.std.specs.Prelude.{OnOk}
use Rattle.grid_model.specs.Schedules.{events_in}
use Rattle.grid_world.specs.Replays.{Adds}
use Rattle.grid_world.proofs.PlayedAll.{adds-one, one-event}
use Rattle.grid_world.proofs.Results.{on-ok-map}
use Rattle.grid_world.proofs.replays.World+Fused+D.play_item.Goals as goal

pub returns-in-Next : goal.returns-in-Next
returns-in-Next g c =
    subst (λ i. OnOk c.play_next.result (Adds c.args.doc.now (events_in i) c.args.self.now c.play_next.new.self c.args.acts.now.items c.play_next.new.acts.items))
    (sym c.in-Next.is) c.play_next.ensures

pub returns-in_ok-more-in_default : goal.returns-in_ok-more-in_default
returns-in_ok-more-in_default g c =
    on-ok-map c.append.result
    (λ is. subst (λ es. Adds c.args.doc.now es c.args.self.now c.play.new.self c.args.acts.now.items c.append.new.items.items)
    (sym (one-event c.args.item c.in_default.not-Next))
    (adds-one c.args.doc.now c.args.item c.args.self.now c.play.new.self c.args.acts.now.items c.append.new.items.items
    c.in_ok-more-in_default.more.items c.in_ok-more-in_default.ensures is))
    c.append.ensures.ok
