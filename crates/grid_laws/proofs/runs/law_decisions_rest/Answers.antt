use Rattle.std.proofs.Common.{[]}
use Rattle.grid_model.specs.Histories.{after}
use Rattle.grid_laws.proofs.RunsDue.{due-run}
use Rattle.grid_laws.proofs.DecisionsRest.{decisions-rest}
use Rattle.grid_laws.proofs.runs.law_decisions_rest.Goals as goal

pub returns : goal.returns
returns c = λ d h run. decisions-rest d (after [] h) (due-run d d.items h run)
