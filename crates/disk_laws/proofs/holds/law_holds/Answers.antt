use Rattle.disk_laws.proofs.AtEnd.{held-end}
use Rattle.disk_laws.proofs.holds.law_holds.Goals as goal

pub returns : goal.returns
returns c = held-end
