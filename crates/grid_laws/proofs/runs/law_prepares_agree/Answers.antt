use Rattle.std.proofs.Common.{[]}
use Rattle.grid_model.specs.Histories.{after}
use Rattle.grid_laws.proofs.RunsDue.{due-run}
use Rattle.grid_laws.proofs.PreparesSay.{prepares-agree}
use Rattle.grid_laws.proofs.runs.law_prepares_agree.Goals as goal

pub returns : goal.returns
returns c = λ d h run. prepares-agree d (after [] h) (due-run d d.items h run)
