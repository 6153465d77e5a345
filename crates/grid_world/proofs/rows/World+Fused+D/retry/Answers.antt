use Rattle.std.proofs.Common.{Some, sym, ap, subst, ◌∙◌}
use Rattle.std.specs.Option.{option_copied}
use Rattle.grid_model.specs.declared.items.Item.TheVariants as item
use Rattle.grid_model.specs.declared.voids.Void.TheVariants as void
use Rattle.grid_model.specs.Nodes.{script_of}
use Rattle.grid_model.specs.Voids.{voided}
use Rattle.grid_world.specs.Follows.{Plays}
use Rattle.grid_world.proofs.Results.{ok-map, told-ok}
use Rattle.grid_world.proofs.AskRows.{homeless-retries, retry-plays, retry-runs, unwritten-retries}
use Rattle.grid_world.proofs.rows.World+Fused+D.retry.Goals as goal

pub returns-in_default : goal.returns-in_default
returns-in_default g c =
    subst (Plays c.args.doc.now (item.Retry c.args.t) c.args.self.now c.args.self.now) (sym c.new.ensures.items)
    (unwritten-retries c.args.doc.now c.args.t c.args.self.now (ap (script_of c.args.t) (sym c.scripts.ensures.value) ∙ sym c.script_of.ensures ∙ ap option_copied c.in_default.is))

pub returns-then-not-is_up : goal.returns-then-not-is_up
returns-then-not-is_up g c =
    let at = ap (script_of c.args.t) (sym c.scripts.ensures.value) ∙ sym c.script_of.ensures ∙ ap option_copied c.in-Some.is
    ∙ ap Some (sym c.script.view_is) in
    told-ok c.voided.result (λ v. v.items) (Plays c.args.doc.now (item.Retry c.args.t) c.args.self.now c.voided.new.self) (voided void.HomeDown)
    c.voided.ensures.told c.voided.ensures.acts
    (λ told. homeless-retries c.args.doc.now c.args.t _ c.args.self.now c.voided.new.self c.requires.one at (sym c.is_up.ensures.up ∙ c.if-not-is_up.true) told)

pub play_or_void-requires-clause-can : goal.play_or_void-requires-clause-can
play_or_void-requires-clause-can g c =
    let at = ap (script_of c.args.t) (sym c.scripts.ensures.value) ∙ sym c.script_of.ensures ∙ ap option_copied c.in-Some.is
    ∙ ap Some (sym c.script.view_is) in
    retry-runs c.args.doc.now c.args.t _ c.args.self.now c.requires at (sym c.is_up.ensures.up ∙ c.if-not-is_up.false)

pub returns : goal.returns
returns g c =
    let at = ap (script_of c.args.t) (sym c.scripts.ensures.value) ∙ sym c.script_of.ensures ∙ ap option_copied c.in-Some.is
    ∙ ap Some (sym c.script.view_is) in
    ok-map c.play_or_void.result
    (λ acts is. retry-plays c.args.doc.now c.args.t _ c.args.self.now c.play_or_void.new.self acts.items c.requires.one at (sym c.is_up.ensures.up ∙ c.if-not-is_up.false) is)
    c.play_or_void.ensures
