use Rattle.std.proofs.Common.{sym, subst, ◌∙◌}
use Rattle.grid_model.specs.declared.items.Item.TheVariants as item
use Rattle.grid_model.specs.declared.voids.Void.TheVariants as void
use Rattle.grid_model.specs.Voids.{voided}
use Rattle.grid_world.specs.Follows.{Plays}
use Rattle.grid_world.specs.Worlds.{HasTold}
use Rattle.grid_world.proofs.Results.{told-ok}
use Rattle.grid_world.proofs.CompactRows.{compact-runs, down-compacts, small-plays}
use Rattle.grid_world.proofs.rows.World+Fused+D.make_small.Goals as goal

pub returns-then-not-is_up : goal.returns-then-not-is_up
returns-then-not-is_up g c =
    told-ok c.voided.result (λ v. v.items) (Plays c.args.doc.now (item.Compact c.args.n) c.args.self.now c.voided.new.self) (voided void.NotUp)
    c.voided.ensures.told c.voided.ensures.acts
    (λ told. down-compacts c.args.doc.now c.args.n c.args.self.now c.voided.new.self c.is_up.ensures.least c.requires (sym c.is_up.ensures.up ∙ c.if-not-is_up.true) told)

pub compact-requires : goal.compact-requires
compact-requires g c =
    compact-runs c.args.doc.now c.args.n c.args.self.now c.is_up.ensures.least c.requires (sym c.is_up.ensures.up ∙ c.if-not-is_up.false)

pub returns : goal.returns
returns g c =
    small-plays c.args.doc.now c.args.n c.args.self.now c.compact.new.self c.tell.new.self c.in_ok-acts.acts.items c.is_up.ensures.least c.requires
    (sym c.is_up.ensures.up ∙ c.if-not-is_up.false) c.in_ok-acts.ensures
    (subst (λ xs. HasTold c.args.doc.now xs c.compact.new.self c.tell.new.self) c.as_slice.ensures.value c.in_ok-tell.ensures)
