use Rattle.std.proofs.Common.{◌∷◌, [], None, sym, ◌∙◌}
use Rattle.grid_model.specs.declared.acts.Act.TheVariants as act
use Rattle.grid_model.specs.declared.items.Item.TheVariants as item
use Rattle.grid_model.specs.declared.voids.Void.TheVariants as void
use Rattle.grid_model.specs.Voids.{voided}
use Rattle.grid_world.specs.Follows.{Plays}
use Rattle.grid_world.proofs.Results.{told-ok}
use Rattle.grid_world.proofs.StopRows.{crash-host, crash-plays, uncrashed-plays}
use Rattle.grid_world.proofs.rows.World+Fused+D.crash.Goals as goal

pub returns-then-not-is_up : goal.returns-then-not-is_up
returns-then-not-is_up g c =
    told-ok c.voided.result (λ v. v.items) (Plays c.args.doc.now (item.Crash c.args.n c.args.how) c.args.self.now c.voided.new.self) (voided void.IsDown)
    c.voided.ensures.told c.voided.ensures.acts
    (λ told. uncrashed-plays c.args.doc.now c.args.n c.args.how c.args.self.now c.voided.new.self c.is_up.ensures.least c.requires (sym c.is_up.ensures.up ∙ c.if-not-is_up.true) told)

pub crash_at-requires : goal.crash_at-requires
crash_at-requires g c =
    crash-host c.args.doc.now c.args.n c.args.how c.args.self.now c.requires

pub returns : goal.returns
returns g c =
    told-ok c.told.result (λ v. v.items) (Plays c.args.doc.now (item.Crash c.args.n c.args.how) c.args.self.now c.told.new.self) (act.Down c.args.n None ∷ [])
    c.told.ensures.told c.told.ensures.acts
    (λ told. crash-plays c.args.doc.now c.args.n c.args.how c.args.self.now c.crash_at.new.self c.told.new.self c.is_up.ensures.least c.requires (sym c.is_up.ensures.up ∙ c.if-not-is_up.false) c.crash_at.ensures told)
