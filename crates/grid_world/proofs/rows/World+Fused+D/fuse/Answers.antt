use Rattle.std.proofs.Common.{◌∷◌, []}
use Rattle.grid_model.specs.declared.acts.Act.TheVariants as act
use Rattle.grid_model.specs.declared.items.Item.TheVariants as item
use Rattle.grid_world.specs.Follows.{Plays}
use Rattle.grid_world.proofs.Results.{told-ok}
use Rattle.grid_world.proofs.StopRows.{fuse-host, fuse-least, fuse-plays}
use Rattle.grid_world.proofs.rows.World+Fused+D.fuse.Goals as goal

pub arm_at-requires-clause-host : goal.arm_at-requires-clause-host
arm_at-requires-clause-host g c =
    fuse-host c.args.doc.now c.args.n c.args.k c.args.how c.args.self.now c.requires

pub arm_at-requires-clause-least : goal.arm_at-requires-clause-least
arm_at-requires-clause-least g c =
    fuse-least c.args.doc.now c.args.n c.args.k c.args.how c.args.self.now c.requires

pub returns : goal.returns
returns g c =
    told-ok c.told.result (λ v. v.items) (Plays c.args.doc.now (item.Fuse c.args.n c.args.k c.args.how) c.args.self.now c.told.new.self) (act.Armed c.args.n c.args.k c.args.how ∷ [])
    c.told.ensures.told c.told.ensures.acts
    (λ told. fuse-plays c.args.doc.now c.args.n c.args.k c.args.how c.args.self.now c.arm_at.new.self c.told.new.self c.arm_at.ensures.positive c.requires c.arm_at.ensures.moved told)
