use Rattle.grid_laws.proofs.CausesShown.{caused-run}
use Rattle.cause_laws.proofs.RefusalsAsked.{refused-asked}
use Rattle.cause_laws.proofs.claims.law_caused.Goals as goal

pub returns-clause-causes : goal.returns-clause-causes
returns-clause-causes c = λ d h run. caused-run d d.items h run

pub returns-clause-asked : goal.returns-clause-asked
returns-clause-asked c = refused-asked
