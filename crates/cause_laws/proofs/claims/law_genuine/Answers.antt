use Rattle.cause_laws.proofs.GenuineActs.{genuine}
use Rattle.cause_laws.proofs.claims.law_genuine.Goals as goal

pub returns : goal.returns
returns c = genuine
