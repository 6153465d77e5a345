use Rattle.script_lang.specs.ExprWords.{expr_of}
use Rattle.script_lang.proofs.Readings.{at_ok}
use Rattle.script_lang.proofs.StepsRead.{IsExprOf, expr_read, expr_again}
use Rattle.script_lang.proofs.laws.law_expr_spelling.Goals as goal

pub returns-clause-reads : goal.returns-clause-reads
returns-clause-reads c = expr_again

pub returns-clause-writes : goal.returns-clause-writes
returns-clause-writes c = λ known ws e is. (at_ok (expr_of known ws) (IsExprOf known ws) e (expr_read known ws) is).spelled

pub returns-clause-known : goal.returns-clause-known
returns-clause-known c = λ known ws e is. (at_ok (expr_of known ws) (IsExprOf known ws) e (expr_read known ws) is).among

pub returns-clause-plain : goal.returns-clause-plain
returns-clause-plain c = λ known ws e is. (at_ok (expr_of known ws) (IsExprOf known ws) e (expr_read known ws) is).plain
