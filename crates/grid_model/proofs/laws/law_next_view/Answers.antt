use Rattle.grid_model.proofs.NextSteps.{event-view}
use Rattle.grid_model.proofs.laws.law_next_view.Goals as goal

pub returns : goal.returns
returns c = event-view
