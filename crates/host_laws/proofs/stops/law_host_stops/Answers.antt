use Rattle.host_laws.proofs.Falls.{crash-turns, arm-turns}
use Rattle.host_laws.proofs.stops.law_host_stops.Goals as goal

pub returns-clause-crashes : goal.returns-clause-crashes
returns-clause-crashes g c d past n x q = crash-turns d past n x q

pub returns-clause-arms : goal.returns-clause-arms
returns-clause-arms g c d past n k how p q = arm-turns d past n k how p q
