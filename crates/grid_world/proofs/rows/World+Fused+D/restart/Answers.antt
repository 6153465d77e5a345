use Rattle.std.proofs.Common.{◌∷◌, [], sym, subst, ◌∙◌}
use Rattle.grid_model.specs.declared.acts.Act.TheVariants as act
use Rattle.grid_model.specs.declared.items.Item.TheVariants as item
use Rattle.grid_model.specs.declared.voids.Void.TheVariants as void
use Rattle.grid_model.specs.Voids.{voided}
use Rattle.grid_hosts.specs.Hosts.{HasRestarted}
use Rattle.grid_world.specs.Follows.{Plays}
use Rattle.grid_world.specs.Worlds.{HasMoved}
use Rattle.grid_world.proofs.Results.{ok-map, told-ok}
use Rattle.grid_world.proofs.ReopenRows.{restart-opens, risen-plays, still-plays, unneeded-plays}
use Rattle.grid_world.proofs.rows.World+Fused+D.restart.Goals as goal

pub returns-then-is_up : goal.returns-then-is_up
returns-then-is_up g c =
    told-ok c.voided.result (λ v. v.items) (Plays c.args.doc.now (item.Restart c.args.n) c.args.self.now c.voided.new.self) (voided void.IsUp)
    c.voided.ensures.told c.voided.ensures.acts
    (λ told. unneeded-plays c.args.doc.now c.args.n c.args.self.now c.voided.new.self c.is_up.ensures.least c.requires (sym c.is_up.ensures.up ∙ c.if-is_up.true) told)

pub restart_at-requires : goal.restart_at-requires
restart_at-requires g c =
    restart-opens c.args.doc.now c.args.n c.args.self.now c.is_up.ensures.least c.requires

pub returns-in-Up : goal.returns-in-Up
returns-in-Up g c =
    ok-map c.risen.result
    (λ acts is. risen-plays c.args.doc.now c.args.n c.in-Up.flag c.args.self.now c.restart_at.new.self c.risen.new.self acts.items c.is_up.ensures.least c.requires
    (sym c.is_up.ensures.up ∙ c.if-is_up.false)
    (subst (λ r. HasMoved c.args.n (λ x y. HasRestarted c.args.doc.now.cluster x y r) c.args.self.now c.restart_at.new.self) c.in-Up.is c.restart_at.ensures) is)
    c.risen.ensures

pub returns-in-StillDown : goal.returns-in-StillDown
returns-in-StillDown g c =
    told-ok c.told.result (λ v. v.items) (Plays c.args.doc.now (item.Restart c.args.n) c.args.self.now c.told.new.self) (act.StillDown c.args.n ∷ [])
    c.told.ensures.told c.told.ensures.acts
    (λ told. still-plays c.args.doc.now c.args.n c.args.self.now c.restart_at.new.self c.told.new.self c.is_up.ensures.least c.requires (sym c.is_up.ensures.up ∙ c.if-is_up.false)
    (subst (λ r. HasMoved c.args.n (λ x y. HasRestarted c.args.doc.now.cluster x y r) c.args.self.now c.restart_at.new.self) c.in-StillDown.is c.restart_at.ensures) told)
