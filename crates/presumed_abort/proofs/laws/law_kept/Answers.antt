use Rattle.presumed_abort.proofs.KeptFacts.{kept-apart, kept-own}
use Rattle.presumed_abort.proofs.Replayed.{changed-distinct}
use Rattle.presumed_abort.proofs.laws.law_kept.Goals as goal

pub returns-clause-apart : goal.returns-clause-apart
returns-clause-apart c = λ n v e outs apart. kept-apart n v e outs apart

pub returns-clause-own : goal.returns-clause-own
returns-clause-own c = λ n v e own. kept-own n v e own

pub returns-clause-unique : goal.returns-clause-unique
returns-clause-unique c = λ t x desk unique. changed-distinct t x desk unique
