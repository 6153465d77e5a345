use Rattle.presumed_abort.proofs.Apart.{view-apart}
use Rattle.presumed_abort.proofs.laws.law_apart.Goals as goal

pub returns : goal.returns
returns c = λ d past n. view-apart d past n
