-- The value of an expression.
use Rattle.std.specs.Prelude.{◌+◌, ◌-◌, ◌*◌, ◌%◌, ◌^◌, min, max, Bool, true, ◌&&◌, ◌==◌, nat_le, if◌then◌else◌, List, [], ◌∷◌, length}
use Rattle.std.specs.List.{list_any}
use Rattle.score_base.specs.declared.keys.Key.{Key}
use Rattle.score_base.specs.declared.ids.Value.{Value}
use Rattle.score_base.specs.Keys.{same_key}
use Rattle.script_lang.specs.declared.exprs.Atom.{Atom}
use Rattle.script_lang.specs.declared.exprs.Atom.TheVariants as atom
use Rattle.script_lang.specs.declared.exprs.Step.{Step}
use Rattle.script_lang.specs.declared.exprs.Step.TheVariants as step
use Rattle.script_lang.specs.declared.exprs.Expr.{Expr}
use Rattle.script_lang.specs.declared.limits.TheConstants.{MAX_STEPS}

-- the value of an atom, where env gives the value of each key
abbrev pub atom_value : (Key → Value) → Atom → Value
atom_value env (atom.Number v) = v
atom_value env (atom.Key k) = env k

-- the value behind a step, modulo 2^64
abbrev pub step_value : (Key → Value) → Value → Step → Value
step_value env v (step.Add a) = (v + atom_value env a) % 2 ^ 64
step_value env v (step.Sub a) = (v + (2 ^ 64 - atom_value env a)) % 2 ^ 64
step_value env v (step.Mul a) = (v * atom_value env a) % 2 ^ 64
step_value env v (step.Min a) = min v (atom_value env a)
step_value env v (step.Max a) = max v (atom_value env a)
step_value env v (step.Pick a b) = if v == 0 then atom_value env b else atom_value env a

-- the value behind some steps, from left to right
abbrev pub steps_value : (Key → Value) → Value → List Step → Value
steps_value env v [] = v
steps_value env v (s ∷ ss) = steps_value env (step_value env v s) ss

-- the value of an expression
abbrev pub expr_value : (Key → Value) → Expr → Value
expr_value env e = steps_value env (atom_value env e.first) e.steps

-- each key that an atom names passes a test
abbrev pub all_in_atom : (Key → Bool) → Atom → Bool
all_in_atom p (atom.Number v) = true
all_in_atom p (atom.Key k) = p k

abbrev pub all_in_step : (Key → Bool) → Step → Bool
all_in_step p (step.Add a) = all_in_atom p a
all_in_step p (step.Sub a) = all_in_atom p a
all_in_step p (step.Mul a) = all_in_atom p a
all_in_step p (step.Min a) = all_in_atom p a
all_in_step p (step.Max a) = all_in_atom p a
all_in_step p (step.Pick a b) = all_in_atom p a && all_in_atom p b

abbrev pub all_in_steps : (Key → Bool) → List Step → Bool
all_in_steps p [] = true
all_in_steps p (s ∷ ss) = all_in_step p s && all_in_steps p ss

-- each key that an expression names passes a test
abbrev pub all_in_expr : (Key → Bool) → Expr → Bool
all_in_expr p e = all_in_atom p e.first && all_in_steps p e.steps

-- an atom that is a key is among these
abbrev pub is_atom_among : List Key → Atom → Bool
is_atom_among ks (atom.Number v) = true
is_atom_among ks (atom.Key k) = list_any (same_key k) ks

abbrev pub is_step_among : List Key → Step → Bool
is_step_among ks (step.Add a) = is_atom_among ks a
is_step_among ks (step.Sub a) = is_atom_among ks a
is_step_among ks (step.Mul a) = is_atom_among ks a
is_step_among ks (step.Min a) = is_atom_among ks a
is_step_among ks (step.Max a) = is_atom_among ks a
is_step_among ks (step.Pick a b) = is_atom_among ks a && is_atom_among ks b

abbrev pub are_steps_among : List Key → List Step → Bool
are_steps_among ks [] = true
are_steps_among ks (s ∷ ss) = is_step_among ks s && are_steps_among ks ss

-- an expression of at most 16 steps, all of whose keys are among these
abbrev pub is_expr_among : List Key → Expr → Bool
is_expr_among ks e = is_atom_among ks e.first && nat_le (length e.steps) MAX_STEPS && are_steps_among ks e.steps
