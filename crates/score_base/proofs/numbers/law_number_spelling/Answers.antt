use Rattle.score_base.proofs.Spelling.{number-decimal, decimal-number}
use Rattle.score_base.proofs.numbers.law_number_spelling.Goals as goal

pub returns-clause-reads : goal.returns-clause-reads
returns-clause-reads c = number-decimal

pub returns-clause-writes : goal.returns-clause-writes
returns-clause-writes c = decimal-number
