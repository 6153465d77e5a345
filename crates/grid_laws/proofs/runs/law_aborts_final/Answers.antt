use Rattle.std.proofs.Common.{[]}
use Rattle.grid_model.specs.Histories.{after}
use Rattle.grid_laws.proofs.RunsDue.{due-run}
use Rattle.grid_laws.proofs.EndsMeant.{aborts-final}
use Rattle.grid_laws.proofs.runs.law_aborts_final.Goals as goal

pub returns : goal.returns
returns c = λ d h run. aborts-final d (after [] h) (due-run d d.items h run)
