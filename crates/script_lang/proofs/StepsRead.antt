-- How an expression that was read is spelled, and that its spelling is read as it.
use Rattle.std.proofs.Common.{◌≡◌, ℕ, zero, suc, ◌≤◌, ◌&&◌, nat_le, true, List, [], ◌∷◌, ◌++◌, length, drop, Result, Ok, Err, IfOk, refl, sym, ap, ◌∙◌, arith, codes}
use Rattle.std.specs.List.{flat_map}
use Rattle.std.specs.Cmp.Lexicographic.{same_text}
use Rattle.std.proofs.lemmas.Bool.{and_parts}
use Rattle.std.proofs.lemmas.Bool.Decides.{nat_tests}
use Rattle.score_base.specs.declared.keys.Key.{Key}
use Rattle.script_lang.specs.declared.exprs.Atom.{Atom}
use Rattle.script_lang.specs.declared.exprs.Step.{Step}
use Rattle.script_lang.specs.declared.exprs.Step.TheVariants as step
use Rattle.script_lang.specs.declared.exprs.Expr.{Expr}
use Rattle.script_lang.specs.declared.expr_words.Operator.{Operator}
use Rattle.script_lang.specs.declared.expr_words.Operator.TheVariants as operator
use Rattle.script_lang.specs.Exprs.{is_atom_among, is_step_among, are_steps_among, is_expr_among}
use Rattle.script_lang.specs.Reading.{is_word}
use Rattle.script_lang.specs.ExprWords.{atom_of, operator_of, atoms_behind, first_atom, one_atom, two_atoms, step_of, steps_of, expr_of}
use Rattle.script_lang.specs.Spelling.{atom_word, step_words, expr_words, is_plain_atom, is_plain_step, are_plain_steps, is_plain_expr}
use Rattle.script_lang.proofs.Readings.{behind, then, either, at_ok}
use Rattle.script_lang.proofs.AtomsRead.{IsAtomOf, atom_read, atom_again}
use Rattle.script_lang.specs.declared.whys.Why.{Why}
use Rattle.script_lang.specs.declared.limits.TheConstants.{MAX_STEPS}

-- the word of an operator
abbrev operator_word : Operator → List ℕ
operator_word operator.Add = codes "+"
operator_word operator.Sub = codes "-"
operator_word operator.Mul = codes "*"
operator_word operator.Min = codes "min"
operator_word operator.Max = codes "max"
operator_word operator.Pick = codes "pick"

operator_read : (w : List ℕ) → IfOk (operator_of w) (λ o. w ≡ operator_word o)
unfolding operator_of
operator_read w = either (is_word w (codes "+")) _ _ _ (λ e. same_text w _ (sym e)) (λ _. either (is_word w (codes "-")) _ _ _ (λ e. same_text w _ (sym e)) (λ _. either (is_word w (codes "*")) _ _ _ (λ e. same_text w _ (sym e)) (λ _. either (is_word w (codes "min")) _ _ _ (λ e. same_text w _ (sym e)) (λ _. either (is_word w (codes "max")) _ _ _ (λ e. same_text w _ (sym e)) (λ _. either (is_word w (codes "pick")) _ _ _ (λ e. same_text w _ (sym e)) (λ _. tt))))))

-- the words begin with the word of the atom
record IsFirstAtom (known : List Key) (ws : List (List ℕ)) (a : Atom) : Type 0 where
  pub spelled : ws ≡ atom_word a ∷ drop 1 ws
  pub among : is_atom_among known a ≡ true
  pub plain : is_plain_atom a ≡ true

first_read : (known : List Key) (ws : List (List ℕ)) → IfOk (first_atom known ws) (IsFirstAtom known ws)
unfolding first_atom
first_read known [] = tt
first_read known (w ∷ ws) = more (atom_of known w) (atom_read known w)
  where
    more : (m : Result Atom Why) → IfOk m (IsAtomOf known w) → IfOk m (IsFirstAtom known (w ∷ ws))
    more (Ok a) h = record { spelled = ap (λ v. v ∷ ws) h.spelled; among = h.among; plain = h.plain }
    more (Err e) h = tt

-- behind the word of the operator, the words begin with those of the step's atoms
record IsStepOf (known : List Key) (o : Operator) (ws : List (List ℕ)) (s : Step) : Type 0 where
  pub spelled : operator_word o ∷ ws ≡ step_words s ++ drop (atoms_behind o) ws
  pub among : is_step_among known s ≡ true
  pub plain : is_plain_step s ≡ true

two_read : (known : List Key) (ws : List (List ℕ)) → IfOk (two_atoms known ws) (IsStepOf known operator.Pick ws)
unfolding two_atoms
two_read known [] = tt
two_read known (w ∷ ws) = behind (atom_of known w) _ (IsAtomOf known w) (IsStepOf known operator.Pick (w ∷ ws)) (atom_read known w) (λ a h. behind (first_atom known ws) _ (IsFirstAtom known ws) (IsStepOf known operator.Pick (w ∷ ws)) (first_read known ws) (λ b k. record {
  spelled = ap (λ l. codes "pick" ∷ w ∷ l) k.spelled ∙ ap (λ v. codes "pick" ∷ v ∷ atom_word b ∷ drop 1 ws) h.spelled;
  among = rw (h.among, k.among) refl;
  plain = rw (h.plain, k.plain) refl;
}))

step_read : (known : List Key) (o : Operator) (ws : List (List ℕ)) → IfOk (step_of known o ws) (IsStepOf known o ws)
unfolding step_of one_atom
step_read known operator.Add ws = behind (first_atom known ws) _ (IsFirstAtom known ws) (IsStepOf known operator.Add ws) (first_read known ws) (λ a h. record { spelled = ap (λ l. codes "+" ∷ l) h.spelled; among = h.among; plain = h.plain })
step_read known operator.Sub ws = behind (first_atom known ws) _ (IsFirstAtom known ws) (IsStepOf known operator.Sub ws) (first_read known ws) (λ a h. record { spelled = ap (λ l. codes "-" ∷ l) h.spelled; among = h.among; plain = h.plain })
step_read known operator.Mul ws = behind (first_atom known ws) _ (IsFirstAtom known ws) (IsStepOf known operator.Mul ws) (first_read known ws) (λ a h. record { spelled = ap (λ l. codes "*" ∷ l) h.spelled; among = h.among; plain = h.plain })
step_read known operator.Min ws = behind (first_atom known ws) _ (IsFirstAtom known ws) (IsStepOf known operator.Min ws) (first_read known ws) (λ a h. record { spelled = ap (λ l. codes "min" ∷ l) h.spelled; among = h.among; plain = h.plain })
step_read known operator.Max ws = behind (first_atom known ws) _ (IsFirstAtom known ws) (IsStepOf known operator.Max ws) (first_read known ws) (λ a h. record { spelled = ap (λ l. codes "max" ∷ l) h.spelled; among = h.among; plain = h.plain })
step_read known operator.Pick ws = two_read known ws

-- the words spell the steps
pub record AreStepsOf (known : List Key) (room : ℕ) (ws : List (List ℕ)) (ss : List Step) : Type 0 where
  pub spelled : ws ≡ flat_map step_words ss
  pub among : are_steps_among known ss ≡ true
  pub plain : are_plain_steps ss ≡ true
  pub few : length ss ≤ room

steps_read : (known : List Key) (room : ℕ) (ws : List (List ℕ))
    → IfOk (steps_of known room ws) (AreStepsOf known room ws)
unfolding steps_of
steps_read known room [] = record { spelled = refl; among = refl; plain = refl; few = omega arith }
steps_read known zero (w ∷ ws) = then (operator_of w) _ _ (λ o. tt)
steps_read known (suc room) (w ∷ ws) = behind (operator_of w) _ (λ o. w ≡ operator_word o) (AreStepsOf known (suc room) (w ∷ ws)) (operator_read w) (λ o e. behind (step_of known o ws) _ (IsStepOf known o ws) (AreStepsOf known (suc room) (w ∷ ws)) (step_read known o ws) (λ s h. behind (steps_of known room (drop (atoms_behind o) ws)) _ (AreStepsOf known room (drop (atoms_behind o) ws)) (AreStepsOf known (suc room) (w ∷ ws)) (steps_read known room (drop (atoms_behind o) ws)) (λ more k. record {
  spelled = ap (λ v. v ∷ ws) e ∙ h.spelled ∙ ap (λ l. step_words s ++ l) k.spelled;
  among = rw (h.among, k.among) refl;
  plain = rw (h.plain, k.plain) refl;
  few = omega (arith, k.few);
})))

-- an expression of an atom and steps that were read is over the known keys
pub parts_among : (known : List Key) (w : List ℕ) (ws : List (List ℕ)) (a : Atom) (ss : List Step)
    → atom_of known w ≡ Ok a → steps_of known MAX_STEPS ws ≡ Ok ss
    → is_expr_among known (record { first = a; steps = ss }) ≡ true
parts_among known w ws a ss one more =
    let h = at_ok (atom_of known w) (IsAtomOf known w) a (atom_read known w) one in
    let k = at_ok (steps_of known MAX_STEPS ws) (AreStepsOf known MAX_STEPS ws) ss (steps_read known MAX_STEPS ws) more in
    let few : nat_le (length ss) MAX_STEPS ≡ true = grind (arith, nat_tests, k.few) in
    rw (h.among, few, k.among) refl

-- the words spell the expression, over the known keys
pub record IsExprOf (known : List Key) (ws : List (List ℕ)) (e : Expr) : Type 0 where
  pub spelled : ws ≡ expr_words e
  pub among : is_expr_among known e ≡ true
  pub plain : is_plain_expr e ≡ true

pub expr_read : (known : List Key) (ws : List (List ℕ)) → IfOk (expr_of known ws) (IsExprOf known ws)
unfolding expr_of
expr_read known [] = tt
expr_read known (w ∷ ws) = behind (atom_of known w) _ (IsAtomOf known w) (IsExprOf known (w ∷ ws)) (atom_read known w) (λ a h. behind (steps_of known MAX_STEPS ws) _ (AreStepsOf known MAX_STEPS ws) (IsExprOf known (w ∷ ws)) (steps_read known MAX_STEPS ws) (λ ss k.
    let few : nat_le (length ss) MAX_STEPS ≡ true = grind (arith, nat_tests, k.few) in
    record {
      spelled = ap (λ v. v ∷ ws) h.spelled ∙ ap (λ l. atom_word a ∷ l) k.spelled;
      among = rw (h.among, few, k.among) refl;
      plain = rw (h.plain, k.plain) refl;
    }))

operator_again : (o : Operator) → operator_of (operator_word o) ≡ Ok o
unfolding operator_of
operator_again operator.Add = refl
operator_again operator.Sub = refl
operator_again operator.Mul = refl
operator_again operator.Min = refl
operator_again operator.Max = refl
operator_again operator.Pick = refl

-- the operator of a step
abbrev operator_in : Step → Operator
operator_in (step.Add a) = operator.Add
operator_in (step.Sub a) = operator.Sub
operator_in (step.Mul a) = operator.Mul
operator_in (step.Min a) = operator.Min
operator_in (step.Max a) = operator.Max
operator_in (step.Pick a b) = operator.Pick

-- the words of a step's atoms
abbrev words_in : Step → List (List ℕ)
words_in (step.Add a) = atom_word a ∷ []
words_in (step.Sub a) = atom_word a ∷ []
words_in (step.Mul a) = atom_word a ∷ []
words_in (step.Min a) = atom_word a ∷ []
words_in (step.Max a) = atom_word a ∷ []
words_in (step.Pick a b) = atom_word a ∷ atom_word b ∷ []

spelled_in : (s : Step) → step_words s ≡ operator_word (operator_in s) ∷ words_in s
spelled_in (step.Add a) = refl
spelled_in (step.Sub a) = refl
spelled_in (step.Mul a) = refl
spelled_in (step.Min a) = refl
spelled_in (step.Max a) = refl
spelled_in (step.Pick a b) = refl

behind_in : (s : Step) (ws : List (List ℕ)) → drop (atoms_behind (operator_in s)) (words_in s ++ ws) ≡ ws
behind_in (step.Add a) ws = refl
behind_in (step.Sub a) ws = refl
behind_in (step.Mul a) ws = refl
behind_in (step.Min a) ws = refl
behind_in (step.Max a) ws = refl
behind_in (step.Pick a b) ws = refl

step_again : (known : List Key) (s : Step) (ws : List (List ℕ)) → is_step_among known s ≡ true → is_plain_step s ≡ true
    → step_of known (operator_in s) (words_in s ++ ws) ≡ Ok s
unfolding step_of one_atom two_atoms first_atom
step_again known (step.Add a) ws among plain = rw (atom_again known a among plain) refl
step_again known (step.Sub a) ws among plain = rw (atom_again known a among plain) refl
step_again known (step.Mul a) ws among plain = rw (atom_again known a among plain) refl
step_again known (step.Min a) ws among plain = rw (atom_again known a among plain) refl
step_again known (step.Max a) ws among plain = rw (atom_again known a among plain) refl
step_again known (step.Pick a b) ws among plain =
    let both = and_parts (is_atom_among known a) (is_atom_among known b) among in
    let plains = and_parts (is_plain_atom a) (is_plain_atom b) plain in
    rw (atom_again known a both.0 plains.0, atom_again known b both.1 plains.1) refl

steps_again : (known : List Key) (room : ℕ) (ss : List Step) → are_steps_among known ss ≡ true
    → are_plain_steps ss ≡ true → length ss ≤ room → steps_of known room (flat_map step_words ss) ≡ Ok ss
unfolding steps_of
steps_again known room [] among plain few = refl
steps_again known zero (s ∷ ss) among plain few = absurd (omega (arith, few))
steps_again known (suc room) (s ∷ ss) among plain few =
    let both = and_parts (is_step_among known s) (are_steps_among known ss) among in
    let plains = and_parts (is_plain_step s) (are_plain_steps ss) plain in
    let rest = steps_again known room ss both.1 plains.1 (omega (arith, few)) in
    rw (spelled_in s, operator_again (operator_in s), step_again known s (flat_map step_words ss) both.0 plains.0, behind_in s (flat_map step_words ss), rest) refl

pub expr_again : (known : List Key) (e : Expr) → is_expr_among known e ≡ true → is_plain_expr e ≡ true
    → expr_of known (expr_words e) ≡ Ok e
unfolding expr_of
expr_again known e among plain =
    let all = and_parts (is_atom_among known e.first && nat_le (length e.steps) MAX_STEPS) (are_steps_among known e.steps) among in
    let head = and_parts (is_atom_among known e.first) (nat_le (length e.steps) MAX_STEPS) all.0 in
    let plains = and_parts (is_plain_atom e.first) (are_plain_steps e.steps) plain in
    rw (atom_again known e.first head.0 plains.0, steps_again known MAX_STEPS e.steps all.1 plains.1 (grind (arith, nat_tests, head.1))) refl
