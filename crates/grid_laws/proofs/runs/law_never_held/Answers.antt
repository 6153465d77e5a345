use Rattle.std.proofs.Common.{[]}
use Rattle.grid_model.specs.Histories.{after}
use Rattle.grid_laws.proofs.RunsDue.{due-run}
use Rattle.grid_laws.proofs.Promises.{never-held}
use Rattle.grid_laws.proofs.runs.law_never_held.Goals as goal

pub returns : goal.returns
returns c = λ d h run. never-held d (after [] h) (due-run d d.items h run)
