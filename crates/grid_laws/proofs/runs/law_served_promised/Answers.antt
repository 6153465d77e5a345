use Rattle.std.proofs.Common.{[]}
use Rattle.grid_model.specs.Histories.{after}
use Rattle.grid_laws.proofs.RunsDue.{due-run}
use Rattle.grid_laws.proofs.Promises.{served-promised}
use Rattle.grid_laws.proofs.runs.law_served_promised.Goals as goal

pub returns : goal.returns
returns c = λ d h run. served-promised d (after [] h) (due-run d d.items h run)
