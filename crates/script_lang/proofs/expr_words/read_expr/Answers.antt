use Rattle.script_lang.proofs.StepsRead.{parts_among}
use Rattle.script_lang.proofs.expr_words.read_expr.Goals as goal

pub returns-clause-known : goal.returns-clause-known
returns-clause-known c = parts_among _ _ _ _ _ c.in_ok-first.ensures c.in_ok-steps.ensures
