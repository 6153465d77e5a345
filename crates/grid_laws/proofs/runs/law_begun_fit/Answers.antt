use Rattle.std.proofs.Common.{[]}
use Rattle.grid_model.specs.Histories.{after}
use Rattle.grid_laws.proofs.RunsDue.{due-run}
use Rattle.grid_laws.proofs.SmallIdents.{low-run}
use Rattle.grid_laws.proofs.BegunFit.{begins-fit}
use Rattle.grid_laws.proofs.runs.law_begun_fit.Goals as goal

pub returns : goal.returns
returns c = λ d h one run. begins-fit d (after [] h) (due-run d d.items h run) (low-run d d.items h run one.document.events)
