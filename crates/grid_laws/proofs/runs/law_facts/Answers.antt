use Rattle.std.proofs.Common.{[]}
use Rattle.grid_model.specs.Histories.{after}
use Rattle.grid_laws.proofs.RunsDue.{due-run}
use Rattle.grid_laws.proofs.NodesFitActs.{locks-exclude, records-fit}
use Rattle.grid_laws.proofs.MessagesBacked.{messages-backed}
use Rattle.grid_laws.proofs.Promises.{served-promised, never-held}
use Rattle.grid_laws.proofs.DecisionsRest.{decisions-rest}
use Rattle.grid_laws.proofs.EndsMeant.{aborts-final}
use Rattle.grid_laws.proofs.runs.law_facts.Goals as goal

pub returns : goal.returns
returns c = λ d h run. let due = due-run d d.items h run in record {
  records = records-fit d (after [] h) due;
  messages = messages-backed d (after [] h) due;
  aborts = aborts-final d (after [] h) due;
  reads = served-promised d (after [] h) due;
  locks = locks-exclude d (after [] h) due;
  decisions = decisions-rest d (after [] h) due;
  held = never-held d (after [] h) due;
}
