use Rattle.std.proofs.Common.{◌≡◌, ◌≤◌, map}
use Rattle.script_lang.specs.Reads.{known_keys}
use Rattle.script_lang.specs.ExprWords.{steps_of}
use Rattle.script_lang.proofs.ReadSteps.{joined}
use Rattle.script_lang.proofs.expr_words.read_steps.Given as goal
use Rattle.script_lang.specs.declared.limits.TheConstants.{MAX_STEPS}

abbrev pub invariant-loop-words : goal.invariant-loop-words
invariant-loop-words l = record {
  told : joined l.steps (steps_of (known_keys l.before) l.room (map (λ w. w.now) l.words)) ≡ steps_of
      (known_keys l.before) MAX_STEPS (map (λ w. w.now) l.initial.words);
  most : l.room ≤ MAX_STEPS;
}

abbrev pub decreases-loop-words : goal.decreases-loop-words
decreases-loop-words l = l.room
