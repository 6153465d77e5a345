use Rattle.std.proofs.Common.{[]}
use Rattle.grid_model.specs.Histories.{after}
use Rattle.grid_laws.proofs.RunsDue.{due-run}
use Rattle.grid_laws.proofs.OwnDecisions.{own-decisions}
use Rattle.grid_laws.proofs.runs.law_own_decisions.Goals as goal

pub returns : goal.returns
returns c = λ d items h run n. own-decisions d (after [] h) (due-run d items h run) n
