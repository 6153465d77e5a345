use Rattle.std.proofs.Common.{◌∷◌, [], sym, ap, subst, ◌∙◌}
use Rattle.std.specs.Option.{option_copied}
use Rattle.grid_model.specs.declared.acts.Act.TheVariants as act
use Rattle.grid_model.specs.declared.events.Event.TheVariants as event
use Rattle.grid_model.specs.declared.voids.Void.TheVariants as void
use Rattle.grid_model.specs.Voids.{voided}
use Rattle.grid_world.specs.Follows.{Delivers}
use Rattle.grid_world.specs.Worlds.{CanRun, HasTold, PlaysBehind}
use Rattle.grid_world.proofs.Results.{ok-map, told-ok}
use Rattle.sent_list.specs.SentLists.{with_gone}
use Rattle.grid_world.proofs.DeliverRows.{deliver-delivers, deliver-runs, missed-delivers, unsent-delivers}
use Rattle.grid_world.proofs.rows.World+Fused+D.deliver.Goals as goal

pub returns-in_default : goal.returns-in_default
returns-in_default g c =
    told-ok c.voided.result (λ v. v.items) (Delivers c.args.doc.now c.args.m c.args.self.now c.voided.new.self) (voided void.NotSent)
    c.voided.ensures.told c.voided.ensures.acts
    (λ told. unsent-delivers c.args.doc.now c.args.m c.args.self.now c.voided.new.self (sym c.message.ensures ∙ ap option_copied c.in_default.is) told)

pub returns-then-not-is_up : goal.returns-then-not-is_up
returns-then-not-is_up g c =
    let at = sym c.message.ensures ∙ ap option_copied c.in-Some.is in
    told-ok c.told.result (λ v. v.items) (Delivers c.args.doc.now c.args.m c.args.self.now c.told.new.self) (act.Missed c.args.m ∷ [])
    c.told.ensures.told c.told.ensures.acts
    (λ told. missed-delivers c.args.doc.now c.args.m c.in-Some.envelope.now c.args.self.now c.told.new.self at (sym c.is_up.ensures.up ∙ c.if-not-is_up.true)
    (subst (λ n. HasTold c.args.doc.now (act.Missed c.args.m ∷ []) (record c.args.self.now { network = n }) c.told.new.self) c.take_away.ensures told))

pub play_at-requires-clause-can : goal.play_at-requires-clause-can
play_at-requires-clause-can g c =
    let at = sym c.message.ensures ∙ ap option_copied c.in-Some.is in
    subst (λ n. CanRun c.args.doc.now c.in-Some.envelope.now.to (event.Deliver c.in-Some.envelope.now.from c.in_ok-copy.field-0) (record c.args.self.now { network = n })) (sym c.take_away.ensures)
    (subst (λ said. CanRun c.args.doc.now c.in-Some.envelope.now.to (event.Deliver c.in-Some.envelope.now.from said) (record c.args.self.now { network = with_gone c.args.m c.args.self.now.network })) (sym c.in_ok-copy.ensures)
    (deliver-runs c.args.doc.now c.args.m c.in-Some.envelope.now c.args.self.now c.requires at (sym c.is_up.ensures.up ∙ c.if-not-is_up.false)))

pub returns : goal.returns
returns g c =
    let at = sym c.message.ensures ∙ ap option_copied c.in-Some.is in
    ok-map c.play_at.result
    (λ acts is. deliver-delivers c.args.doc.now c.args.m c.in-Some.envelope.now c.args.self.now c.play_at.new.self acts.items at (sym c.is_up.ensures.up ∙ c.if-not-is_up.false)
    (subst (λ n. PlaysBehind c.args.doc.now (act.Got c.args.m ∷ []) c.in-Some.envelope.now.to (event.Deliver c.in-Some.envelope.now.from c.in-Some.envelope.now.message) (record c.args.self.now { network = n })
    c.play_at.new.self acts.items) c.take_away.ensures
    (subst (λ said. PlaysBehind c.args.doc.now (act.Got c.args.m ∷ []) c.in-Some.envelope.now.to (event.Deliver c.in-Some.envelope.now.from said) (record c.args.self.now { network = c.take_away.new.self })
    c.play_at.new.self acts.items) c.in_ok-copy.ensures
    (subst (λ xs. PlaysBehind c.args.doc.now xs c.in-Some.envelope.now.to (event.Deliver c.in-Some.envelope.now.from c.in_ok-copy.field-0) (record c.args.self.now { network = c.take_away.new.self })
    c.play_at.new.self acts.items) c.in_ok-first.ensures is))))
    c.play_at.ensures
