-- Some steps that were read, with those that follow.
use Rattle.std.proofs.Common.{◌≡◌, ℕ, zero, suc, ◌-◌, ◌<◌, List, [], ◌∷◌, ◌++◌, drop, Result, Ok, Err, refl, ap, arith}
use Rattle.std.proofs.lemmas.List.{append_assoc}
use Rattle.score_base.specs.declared.keys.Key.{Key}
use Rattle.script_lang.specs.declared.exprs.Step.{Step}
use Rattle.script_lang.specs.declared.expr_words.Operator.{Operator}
use Rattle.script_lang.specs.Reading.{◌>>=◌}
use Rattle.script_lang.specs.ExprWords.{operator_of, atoms_behind, step_of, steps_of}
use Rattle.script_lang.specs.declared.whys.Why.{Why}

-- the steps read so far, with those that a reading of the rest gives
abbrev pub joined : List Step → Result (List Step) Why → Result (List Step) Why
joined front (Ok more) = Ok (front ++ more)
joined front (Err why) = Err why

joined_more : (front : List Step) (s : Step) (m : Result (List Step) Why)
    → joined (front ++ s ∷ []) m ≡ joined front (m >>= λ more. Ok (s ∷ more))
joined_more front s (Ok more) = ap Ok (append_assoc front (s ∷ []) more)
joined_more front s (Err why) = refl

-- one more step was read
pub steps_more : (known : List Key) (room : ℕ) (words ws : List (List ℕ)) (w : List ℕ) (o : Operator) (s : Step)
    (front new : List Step) (whole : Result (List Step) Why) → 0 < room → operator_of w ≡ Ok o
    → step_of known o ws ≡ Ok s → new ≡ front ++ s ∷ [] → joined front (steps_of known room words) ≡ whole
    → words ≡ w ∷ ws → joined new (steps_of known (room - 1) (drop (atoms_behind o) ws)) ≡ whole
unfolding steps_of
steps_more known zero words ws w o s front new whole some op one more told first = absurd (omega (arith, some))
steps_more known (suc room) words ws w o s front new whole some op one more told first =
    let less : suc room - 1 ≡ room = omega arith in
    rw (less, more, joined_more) (rw (first, op, one) at told)
