use Rattle.grid_laws.proofs.DeliveredFit.{delivered-fit}
use Rattle.grid_laws.proofs.runs.law_fit.Goals as goal

pub returns : goal.returns
returns c = λ d h one run. delivered-fit d h one run
