use Rattle.std.proofs.Common.{refl, arith}
use Rattle.presumed_abort.specs.Views.{opened_view}
use Rattle.presumed_abort.proofs.Replayed.{opened-desk, decided-distinct}
use Rattle.presumed_abort.proofs.laws.law_opened.Goals as goal

pub returns-clause-desk : goal.returns-clause-desk
returns-clause-desk c = λ k r. opened-desk (opened_view k r) (λ t. refl) (λ t. refl)

pub returns-clause-apart : goal.returns-clause-apart
returns-clause-apart c = λ k r t y is. refl

pub returns-clause-own : goal.returns-clause-own
returns-clause-own c = λ k r t o is. absurd (grind (arith, is))

pub returns-clause-unique : goal.returns-clause-unique
returns-clause-unique c = λ r. decided-distinct r
