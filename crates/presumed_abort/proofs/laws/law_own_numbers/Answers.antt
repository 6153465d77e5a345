use Rattle.presumed_abort.proofs.Apart.{view-numbers}
use Rattle.presumed_abort.proofs.laws.law_own_numbers.Goals as goal

pub returns : goal.returns
returns c = λ d past n. view-numbers d past n
