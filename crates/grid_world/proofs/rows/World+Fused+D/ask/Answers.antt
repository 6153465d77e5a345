use Rattle.std.proofs.Common.{sym, ◌∙◌}
use Rattle.grid_model.specs.declared.items.Item.TheVariants as item
use Rattle.grid_model.specs.declared.voids.Void.TheVariants as void
use Rattle.grid_model.specs.Voids.{voided}
use Rattle.grid_world.specs.Follows.{Plays}
use Rattle.grid_world.proofs.Results.{ok-map, told-ok}
use Rattle.grid_world.proofs.AskRows.{ask-plays, ask-runs, down-asks}
use Rattle.grid_world.proofs.rows.World+Fused+D.ask.Goals as goal

pub returns-then-not-is_up : goal.returns-then-not-is_up
returns-then-not-is_up g c =
    told-ok c.voided.result (λ v. v.items) (Plays c.args.doc.now (item.Ask c.args.n c.args.t) c.args.self.now c.voided.new.self) (voided void.NotPending)
    c.voided.ensures.told c.voided.ensures.acts
    (λ told. down-asks c.args.doc.now c.args.n c.args.t c.args.self.now c.voided.new.self c.is_up.ensures.least c.requires (sym c.is_up.ensures.up ∙ c.if-not-is_up.true) told)

pub play_or_void-requires-clause-can : goal.play_or_void-requires-clause-can
play_or_void-requires-clause-can g c =
    ask-runs c.args.doc.now c.args.n c.args.t c.args.self.now c.is_up.ensures.least c.requires (sym c.is_up.ensures.up ∙ c.if-not-is_up.false)

pub returns : goal.returns
returns g c =
    ok-map c.play_or_void.result
    (λ acts is. ask-plays c.args.doc.now c.args.n c.args.t c.args.self.now c.play_or_void.new.self acts.items c.is_up.ensures.least c.requires (sym c.is_up.ensures.up ∙ c.if-not-is_up.false) is)
    c.play_or_void.ensures
