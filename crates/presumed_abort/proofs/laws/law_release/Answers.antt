use Rattle.presumed_abort.proofs.Released.{released}
use Rattle.presumed_abort.proofs.laws.law_release.Goals as goal

pub returns : goal.returns
returns c = λ t x desk makes there. released t x desk makes there
