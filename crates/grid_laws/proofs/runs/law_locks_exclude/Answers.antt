use Rattle.std.proofs.Common.{[]}
use Rattle.grid_model.specs.Histories.{after}
use Rattle.grid_laws.proofs.RunsDue.{due-run}
use Rattle.grid_laws.proofs.NodesFitActs.{locks-exclude}
use Rattle.grid_laws.proofs.runs.law_locks_exclude.Goals as goal

pub returns : goal.returns
returns c = λ d h run. locks-exclude d (after [] h) (due-run d d.items h run)
