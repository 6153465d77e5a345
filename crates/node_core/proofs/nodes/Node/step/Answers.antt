use Rattle.std.proofs.Common.{sym, subst}
use Rattle.grid_model.specs.declared.events.Event.{Event}
use Rattle.node_core.specs.Steps.{IsStepped}
use Rattle.node_core.proofs.UnfitSteps.{unfit-step, unfit-begin-step}
use Rattle.node_core.proofs.nodes.Node.step.Goals as goal

pub returns-else-is_fit_begin : goal.returns-else-is_fit_begin
returns-else-is_fit_begin g c =
    subst (λ (e : Event). IsStepped c.args.self e c.quiet.result) (sym c.in-Begin.is)
    (unfit-begin-step c.args.self c.in-Begin.script c.in-Begin.floor c.quiet.result c.if-is_fit_begin.ensures
    c.quiet.ensures)

pub returns-else-is_fit : goal.returns-else-is_fit
returns-else-is_fit g c =
    subst (λ (e : Event). IsStepped c.args.self e c.quiet-else-is_fit.result) (sym c.in-Deliver.is)
    (unfit-step c.args.self c.in-Deliver.from c.in-Deliver.message c.quiet-else-is_fit.result c.if-is_fit.ensures
    c.quiet-else-is_fit.ensures)
