-- What one more operation does to a well-formed script.
use Rattle.std.proofs.Common.{◌≡◌, ◌<◌, ◌&&◌, true, List, [], ◌∷◌, ◌++◌, length, length-append, Result, Ok, Err, OnOk, OnErr, refl, ap, ◌∙◌, arith}
use Rattle.std.proofs.lemmas.Bool.{and_parts}
use Rattle.std.proofs.lemmas.List.{append-nil}
use Rattle.score_base.specs.declared.keys.Key.{Key}
use Rattle.script_lang.specs.declared.exprs.Atom.{Atom}
use Rattle.script_lang.specs.declared.exprs.Atom.TheVariants as atom
use Rattle.script_lang.specs.declared.exprs.Step.{Step}
use Rattle.script_lang.specs.declared.exprs.Step.TheVariants as step
use Rattle.script_lang.specs.declared.exprs.Expr.{Expr}
use Rattle.script_lang.specs.declared.scripts.Op.{Op}
use Rattle.script_lang.specs.declared.scripts.Op.TheVariants as op
use Rattle.script_lang.specs.Exprs.{is_atom_among, is_step_among, are_steps_among, is_expr_among}
use Rattle.script_lang.specs.Reads.{known_keys}
use Rattle.script_lang.specs.Scripts.{are_sound, IsFront}
use Rattle.script_lang.proofs.Seen.{SameKeys, in_middle}
use Rattle.script_lang.specs.declared.limits.TheConstants.{MAX_OPS}

-- a read behind them leaves them sound
are_sound-read : (known : List Key) (ops : List Op) (k : Key)
    → are_sound known (ops ++ op.Read k ∷ []) ≡ are_sound known ops
are_sound-read known [] k = refl
are_sound-read known (op.Read x ∷ ops) k = are_sound-read (x ∷ known) ops k
are_sound-read known (op.Write x e ∷ ops) k = ap (λ b. is_expr_among known e && b) (are_sound-read known ops k)

atom_same : (s t : List Key) (a : Atom) → SameKeys s t → is_atom_among s a ≡ is_atom_among t a
atom_same s t (atom.Number v) h = refl
atom_same s t (atom.Key k) h = h k

step_same : (s t : List Key) (x : Step) → SameKeys s t → is_step_among s x ≡ is_step_among t x
step_same s t (step.Add a) h = atom_same s t a h
step_same s t (step.Sub a) h = atom_same s t a h
step_same s t (step.Mul a) h = atom_same s t a h
step_same s t (step.Min a) h = atom_same s t a h
step_same s t (step.Max a) h = atom_same s t a h
step_same s t (step.Pick a b) h = rw (atom_same s t a h, atom_same s t b h) refl

steps_same : (s t : List Key) (xs : List Step) → SameKeys s t → are_steps_among s xs ≡ are_steps_among t xs
steps_same s t [] h = refl
steps_same s t (x ∷ xs) h = rw (step_same s t x h, steps_same s t xs h) refl

-- an expression over some keys is one over all lists with the same keys
pub expr_same : (s t : List Key) (e : Expr) → SameKeys s t → is_expr_among s e ≡ is_expr_among t e
expr_same s t e h = rw (atom_same s t e.first h, steps_same s t e.steps h) refl

-- a write of an expression over the keys read before leaves them sound
are_sound-write : (known : List Key) (ops : List Op) (k : Key) (e : Expr)
    → is_expr_among (known_keys ops ++ known) e ≡ true → are_sound known ops ≡ true
    → are_sound known (ops ++ op.Write k e ∷ []) ≡ true
are_sound-write known [] k e among sound = rw among refl
are_sound-write known (op.Read x ∷ ops) k e among sound = are_sound-write (x ∷ known) ops k e (expr_same (known_keys ops ++ x ∷ known) (x ∷ known_keys ops ++ known) e (in_middle (known_keys ops) known x) ∙ among) sound
are_sound-write known (op.Write x f ∷ ops) k e among sound =
    let both = and_parts (is_expr_among known f) (are_sound known ops) sound in
    rw (both.0, are_sound-write known ops k e among both.1) refl

pub IsFront-read : {T E : Type 0} (r : Result T E) (old new : List Op) (k : Key) → IsFront old → length old < MAX_OPS
    → OnOk r (new ≡ old ++ op.Read k ∷ []) → OnErr r (new ≡ old) → IsFront new
IsFront-read (Ok x) old new k front short ok err = rw ok (record {
  most = omega (arith, length-append old (op.Read k ∷ []));
  sound = rw (are_sound-read [] old k) front.sound;
})
IsFront-read (Err e) old new k front short ok err = rw err front

pub IsFront-write : {T E : Type 0} (r : Result T E) (old new : List Op) (k : Key) (e : Expr) → IsFront old
    → length old < MAX_OPS → is_expr_among (known_keys old) e ≡ true → OnOk r (new ≡ old ++ op.Write k e ∷ [])
    → OnErr r (new ≡ old) → IsFront new
IsFront-write (Ok x) old new k e front short among ok err = rw ok (record {
  most = omega (arith, length-append old (op.Write k e ∷ []));
  sound = are_sound-write [] old k e (ap (λ ks. is_expr_among ks e) (append-nil (known_keys old)) ∙ among) front.sound;
})
IsFront-write (Err f) old new k e front short among ok err = rw err front
