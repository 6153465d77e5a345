use Rattle.std.proofs.Common.{[], Some, sym, ap, subst, ◌∙◌}
use Rattle.std.specs.Option.{option_copied}
use Rattle.grid_model.specs.declared.events.Event.TheVariants as event
use Rattle.grid_model.specs.declared.items.Item.TheVariants as item
use Rattle.grid_model.specs.declared.voids.Void.TheVariants as void
use Rattle.grid_model.specs.Nodes.{script_of}
use Rattle.grid_model.specs.Voids.{voided}
use Rattle.grid_world.specs.Follows.{Plays}
use Rattle.grid_world.specs.Worlds.{CanRun, PlaysBehind}
use Rattle.grid_world.proofs.Results.{ok-map, told-ok}
use Rattle.run_tally.specs.Phases.{floor_in}
use Rattle.grid_world.proofs.BeginRows.{again-plays, begin-plays, begin-runs, busy-plays, homeless-plays, unwritten-plays}
use Rattle.grid_world.proofs.rows.World+Fused+D.begin.Goals as goal

pub returns-then-is_begun : goal.returns-then-is_begun
returns-then-is_begun g c =
    told-ok c.voided.result (λ v. v.items) (Plays c.args.doc.now (item.Begin c.args.t) c.args.self.now c.voided.new.self) (voided void.Begun)
    c.voided.ensures.told c.voided.ensures.acts
    (λ told. again-plays c.args.doc.now c.args.t c.args.self.now c.voided.new.self (sym c.is_begun.ensures ∙ c.if-is_begun.true) told)

pub returns-in_default : goal.returns-in_default
returns-in_default g c =
    subst (Plays c.args.doc.now (item.Begin c.args.t) c.args.self.now c.args.self.now) (sym c.new.ensures.items)
    (unwritten-plays c.args.doc.now c.args.t c.args.self.now (sym c.is_begun.ensures ∙ c.if-is_begun.false) (ap (script_of c.args.t) (sym c.scripts.ensures.value) ∙ sym c.script_of.ensures ∙ ap option_copied c.in_default.is))

pub returns-then-not-is_up : goal.returns-then-not-is_up
returns-then-not-is_up g c =
    let at = ap (script_of c.args.t) (sym c.scripts.ensures.value) ∙ sym c.script_of.ensures ∙ ap option_copied c.in-Some.is
    ∙ ap Some (sym c.script.view_is) in
    told-ok c.voided-then-not-is_up.result (λ v. v.items) (Plays c.args.doc.now (item.Begin c.args.t) c.args.self.now c.voided-then-not-is_up.new.self) (voided void.HomeDown)
    c.voided-then-not-is_up.ensures.told c.voided-then-not-is_up.ensures.acts
    (λ told. homeless-plays c.args.doc.now c.args.t _ c.args.self.now c.voided-then-not-is_up.new.self (sym c.is_begun.ensures ∙ c.if-is_begun.false) at (sym c.is_up.ensures.up ∙ c.if-not-is_up.true) told)

pub returns-then-is_busy : goal.returns-then-is_busy
returns-then-is_busy g c =
    let at = ap (script_of c.args.t) (sym c.scripts.ensures.value) ∙ sym c.script_of.ensures ∙ ap option_copied c.in-Some.is
    ∙ ap Some (sym c.script.view_is) in
    told-ok c.voided-then-is_busy.result (λ v. v.items) (Plays c.args.doc.now (item.Begin c.args.t) c.args.self.now c.voided-then-is_busy.new.self) (voided void.SessionBusy)
    c.voided-then-is_busy.ensures.told c.voided-then-is_busy.ensures.acts
    (λ told. busy-plays c.args.doc.now c.args.t _ c.args.self.now c.voided-then-is_busy.new.self (sym c.is_begun.ensures ∙ c.if-is_begun.false) at (sym c.is_up.ensures.up ∙ c.if-not-is_up.false) (sym c.is_busy.ensures ∙ c.if-is_busy.true) told)

pub play_at-requires-clause-can : goal.play_at-requires-clause-can
play_at-requires-clause-can g c =
    let at = ap (script_of c.args.t) (sym c.scripts.ensures.value) ∙ sym c.script_of.ensures ∙ ap option_copied c.in-Some.is
    ∙ ap Some (sym c.script.view_is) in
    let event_is = ap (λ k. event.Begin k (floor_in c.args.doc.now c.args.self.now.tally c.script.inside.session))
    (c.script.view_is ∙ sym c.in_ok-copy.ensures)
    ∙ ap (event.Begin c.in_ok-copy.field-0) (sym c.floor-floor.ensures) in
    subst (λ ev. CanRun c.args.doc.now c.script.inside.home ev c.args.self.now) event_is (begin-runs c.args.doc.now c.args.t _ c.args.self.now c.requires at (sym c.is_up.ensures.up ∙ c.if-not-is_up.false))

pub returns : goal.returns
returns g c =
    let at = ap (script_of c.args.t) (sym c.scripts.ensures.value) ∙ sym c.script_of.ensures ∙ ap option_copied c.in-Some.is
    ∙ ap Some (sym c.script.view_is) in
    let event_is = ap (λ k. event.Begin k (floor_in c.args.doc.now c.args.self.now.tally c.script.inside.session))
    (c.script.view_is ∙ sym c.in_ok-copy.ensures)
    ∙ ap (event.Begin c.in_ok-copy.field-0) (sym c.floor-floor.ensures) in
    ok-map c.play_at.result
    (λ acts is. begin-plays c.args.doc.now c.args.t _ c.args.self.now c.play_at.new.self acts.items (sym c.is_begun.ensures ∙ c.if-is_begun.false) at (sym c.is_up.ensures.up ∙ c.if-not-is_up.false)
    (sym c.is_busy.ensures ∙ c.if-is_busy.false)
    (subst (λ ev. PlaysBehind c.args.doc.now [] c.script.inside.home ev c.args.self.now c.play_at.new.self acts.items) (sym event_is)
    (subst (λ xs. PlaysBehind c.args.doc.now xs c.script.inside.home (event.Begin c.in_ok-copy.field-0 c.floor-floor.result) c.args.self.now
    c.play_at.new.self acts.items) c.new-2.ensures.items is)))
    c.play_at.ensures
