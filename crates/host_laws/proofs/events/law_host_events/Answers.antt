use Rattle.host_laws.proofs.Compactions.{compacts-behind}
use Rattle.host_laws.proofs.Steps.{runs-behind}
use Rattle.host_laws.proofs.events.law_host_events.Goals as goal

pub returns-clause-runs : goal.returns-clause-runs
returns-clause-runs g c d past n m e x q r = runs-behind d past n m e x q r

pub returns-clause-compacts : goal.returns-clause-compacts
returns-clause-compacts g c d past n x h now r = compacts-behind d past n x h now r
