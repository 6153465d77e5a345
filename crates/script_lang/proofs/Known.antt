-- An expression over some keys has its values where each of them has one.
use Rattle.std.proofs.Common.{◌≡◌, ◌&&◌, ◌||◌, Bool, true, false, List, [], ◌∷◌, length, nat_le, refl, sym, subst}
use Rattle.std.specs.List.{list_all}
use Rattle.std.specs.Cmp.Lexicographic.{same_text}
use Rattle.std.proofs.lemmas.Bool.{and_parts}
use Rattle.score_base.specs.declared.keys.Key.{Key}
use Rattle.score_base.specs.Keys.{same_key}
use Rattle.script_lang.specs.declared.exprs.Atom.{Atom}
use Rattle.script_lang.specs.declared.exprs.Atom.TheVariants as atom
use Rattle.script_lang.specs.declared.exprs.Step.{Step}
use Rattle.script_lang.specs.declared.exprs.Step.TheVariants as step
use Rattle.script_lang.specs.declared.exprs.Expr.{Expr}
use Rattle.script_lang.specs.Reads.{is_key_among}
use Rattle.script_lang.specs.Exprs.{is_atom_among, is_step_among, are_steps_among, is_expr_among, all_in_atom, all_in_step, all_in_steps, all_in_expr}
use Rattle.script_lang.specs.declared.limits.TheConstants.{MAX_STEPS}

module _ (p : Key → Bool) where
  key_passes : (known : List Key) (k : Key) → list_all p known ≡ true → is_key_among k known ≡ true → p k ≡ true
  key_passes [] k all among = cc
  key_passes (x ∷ known) k all among = by (same_key k x) refl among (key_passes known k both.1)
    where
      both : (p x ≡ true) × (list_all p known ≡ true)
      both = and_parts (p x) (list_all p known) all

      by : (b : Bool) → same_key k x ≡ b → (b || is_key_among k known) ≡ true
          → (is_key_among k known ≡ true → p k ≡ true) → p k ≡ true
      by true same h rest = subst (λ (y : Key). p y ≡ true) (sym (same_text k x (sym same))) both.0
      by false other h rest = rest h

  atom_passes : (known : List Key) (a : Atom) → list_all p known ≡ true → is_atom_among known a ≡ true
      → all_in_atom p a ≡ true
  atom_passes known (atom.Number v) all among = refl
  atom_passes known (atom.Key k) all among = key_passes known k all among

  step_passes : (known : List Key) (s : Step) → list_all p known ≡ true → is_step_among known s ≡ true
      → all_in_step p s ≡ true
  step_passes known (step.Add a) all among = atom_passes known a all among
  step_passes known (step.Sub a) all among = atom_passes known a all among
  step_passes known (step.Mul a) all among = atom_passes known a all among
  step_passes known (step.Min a) all among = atom_passes known a all among
  step_passes known (step.Max a) all among = atom_passes known a all among
  step_passes known (step.Pick a b) all among =
      let two = and_parts (is_atom_among known a) (is_atom_among known b) among in
      rw (atom_passes known a all two.0, atom_passes known b all two.1) refl

  steps_pass : (known : List Key) (ss : List Step) → list_all p known ≡ true → are_steps_among known ss ≡ true
      → all_in_steps p ss ≡ true
  steps_pass known [] all among = refl
  steps_pass known (s ∷ ss) all among =
      let two = and_parts (is_step_among known s) (are_steps_among known ss) among in
      rw (step_passes known s all two.0, steps_pass known ss all two.1) refl

  pub expr_passes : (known : List Key) (e : Expr) → list_all p known ≡ true → is_expr_among known e ≡ true
      → all_in_expr p e ≡ true
  expr_passes known e all among =
      let two = and_parts (is_atom_among known e.first && nat_le (length e.steps) MAX_STEPS) (are_steps_among known e.steps) among in
      let head = and_parts (is_atom_among known e.first) (nat_le (length e.steps) MAX_STEPS) two.0 in
      rw (atom_passes known e.first all head.0, steps_pass known e.steps all two.1) refl
