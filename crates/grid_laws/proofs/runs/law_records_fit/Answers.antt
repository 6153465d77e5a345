use Rattle.std.proofs.Common.{[]}
use Rattle.grid_model.specs.Histories.{after}
use Rattle.grid_laws.proofs.RunsDue.{due-run}
use Rattle.grid_laws.proofs.NodesFitActs.{records-fit, up-settled}
use Rattle.grid_laws.proofs.runs.law_records_fit.Goals as goal

pub returns : goal.returns
returns c = record {
  fit = λ d h run. records-fit d (after [] h) (due-run d d.items h run);
  settled = λ d h run. up-settled d (after [] h) (due-run d d.items h run);
}
