use Rattle.std.proofs.Common.{arith}
use Rattle.std.proofs.lemmas.Grind.{common_steps}
use Rattle.script_lang.proofs.ReadSteps.{steps_more}
use Rattle.script_lang.proofs.expr_words.read_steps.Goals as goal

pub loop-words-preserved : goal.loop-words-preserved
loop-words-preserved c = record {
  told = rw c.behind_atoms-words.ensures (steps_more _ _ _ _ _ _ _ _ _ _ (omega (arith, c.if-room-eq0.false)) c.in_ok-operator.ensures c.in_ok-step.ensures c.in_ok-push.ensures.ok c.loop-words.invariant.told (grind (arith, common_steps)));
  most = omega (arith, c.loop-words.invariant.most);
}
