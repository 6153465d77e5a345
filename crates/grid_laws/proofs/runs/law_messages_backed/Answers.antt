use Rattle.std.proofs.Common.{[]}
use Rattle.grid_model.specs.Histories.{after}
use Rattle.grid_laws.proofs.RunsDue.{due-run}
use Rattle.grid_laws.proofs.MessagesBacked.{messages-backed}
use Rattle.grid_laws.proofs.runs.law_messages_backed.Goals as goal

pub returns : goal.returns
returns c = λ d h run. messages-backed d (after [] h) (due-run d d.items h run)
