use Rattle.std.proofs.Common.{◌∷◌, [], is_some, sym, ap, subst, ◌∙◌}
use Rattle.std.specs.Option.{option_copied}
use Rattle.grid_model.specs.declared.acts.Act.TheVariants as act
use Rattle.grid_model.specs.declared.items.Item.TheVariants as item
use Rattle.grid_model.specs.declared.voids.Void.TheVariants as void
use Rattle.grid_model.specs.Voids.{voided}
use Rattle.grid_world.specs.Follows.{Plays}
use Rattle.grid_world.specs.Worlds.{HasTold}
use Rattle.grid_world.proofs.Results.{told-ok}
use Rattle.grid_world.proofs.DeliverRows.{dropped-plays, undropped-plays}
use Rattle.grid_world.proofs.rows.World+Fused+D.drop_message.Goals as goal

pub returns-in_default : goal.returns-in_default
returns-in_default g c =
    told-ok c.voided.result (λ v. v.items) (Plays c.args.doc.now (item.Drop c.args.m) c.args.self.now c.voided.new.self) (voided void.NotSent)
    c.voided.ensures.told c.voided.ensures.acts
    (λ told. undropped-plays c.args.doc.now c.args.m c.args.self.now c.voided.new.self
    (ap is_some (sym c.message.ensures ∙ ap option_copied c.in_default.is)) told)

pub returns : goal.returns
returns g c =
    told-ok c.told.result (λ v. v.items) (Plays c.args.doc.now (item.Drop c.args.m) c.args.self.now c.told.new.self) (act.Dropped c.args.m ∷ [])
    c.told.ensures.told c.told.ensures.acts
    (λ told. dropped-plays c.args.doc.now c.args.m c.args.self.now c.told.new.self
    (ap is_some (sym c.message.ensures ∙ ap option_copied c.in-Some.is))
    (subst (λ n. HasTold c.args.doc.now (act.Dropped c.args.m ∷ []) (record c.args.self.now { network = n }) c.told.new.self) c.take_away.ensures told))
