use Rattle.host_laws.proofs.Reopenings.{are-openable, reopens-behind}
use Rattle.host_laws.proofs.openings.law_host_openings.Goals as goal

pub returns-clause-openable : goal.returns-clause-openable
returns-clause-openable g c d items h n a b fall = are-openable d items h n a b fall

pub returns-clause-reopens : goal.returns-clause-reopens
returns-clause-reopens g c d items h n a b fall q r = reopens-behind d items h n a b fall q r
