use Rattle.grid_laws.proofs.SmallIdents.{identifiers-below}
use Rattle.grid_laws.proofs.runs.law_identifiers.Goals as goal

pub returns : goal.returns
returns c = λ d h run. identifiers-below d d.items h run
