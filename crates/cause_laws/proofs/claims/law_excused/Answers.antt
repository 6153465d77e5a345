use Rattle.cause_laws.proofs.Accounts.{accounts}
use Rattle.cause_laws.proofs.OpenExcused.{excused}
use Rattle.cause_laws.proofs.claims.law_excused.Goals as goal

pub returns-clause-open : goal.returns-clause-open
returns-clause-open c = excused

pub returns-clause-begun : goal.returns-clause-begun
returns-clause-begun c = λ d h one run. accounts d h (excused d h one run)
