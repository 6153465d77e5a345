use Rattle.host_laws.proofs.OtherNodes.{stands-unmoved}
use Rattle.host_laws.proofs.others.law_host_others.Goals as goal

pub returns : goal.returns
returns g c d past now n p = stands-unmoved d past now n p
