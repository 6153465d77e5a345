-- An expression as the words of a line: an atom, then at most 16 steps, each an operator and an atom,
-- or 'pick' and two atoms.
use Rattle.std.specs.Prelude.{ℕ, zero, suc, List, [], ◌∷◌, drop, Result, Ok, Err, if◌then◌else◌, codes}
use Rattle.score_base.specs.declared.keys.Key.{Key}
use Rattle.score_base.specs.Numbers.{number}
use Rattle.script_lang.specs.declared.exprs.Atom.{Atom}
use Rattle.script_lang.specs.declared.exprs.Atom.TheVariants as atom
use Rattle.script_lang.specs.declared.exprs.Step.{Step}
use Rattle.script_lang.specs.declared.exprs.Step.TheVariants as step
use Rattle.script_lang.specs.declared.exprs.Expr.{Expr}
use Rattle.script_lang.specs.declared.expr_words.Operator.{Operator}
use Rattle.script_lang.specs.declared.expr_words.Operator.TheVariants as operator
use Rattle.script_lang.specs.Reads.{is_key_among}
use Rattle.script_lang.specs.Reading.{◌>>=◌, is_word, word_at, or_why}
use Rattle.script_lang.specs.Words.{key_of, begins_with_digit}
use Rattle.script_lang.specs.declared.whys.Why.{Why}
use Rattle.script_lang.specs.declared.whys.Why.TheVariants as why
use Rattle.script_lang.specs.declared.limits.TheConstants.{MAX_STEPS}

-- a number as an atom
unfoldable pub number_atom : List ℕ → Result Atom Why
number_atom w = do
  n ← or_why why.Number (number w)
  Ok (atom.Number n)

abbrev pub known_atom : List Key → Key → Result Atom Why
known_atom known k = if is_key_among k known then Ok (atom.Key k) else Err why.Unread

-- a key that was read before, as an atom
unfoldable pub key_atom : List Key → List ℕ → Result Atom Why
key_atom known w = do
  k ← key_of w
  known_atom known k

-- an atom: a number where it begins with a digit, and else a key
unfoldable pub atom_of : List Key → List ℕ → Result Atom Why
atom_of known w = if begins_with_digit w then number_atom w else key_atom known w

-- the word between two atoms
unfoldable pub operator_of : List ℕ → Result Operator Why
operator_of w =
    if is_word w (codes "+") then Ok operator.Add else
    (if is_word w (codes "-") then Ok operator.Sub else
    (if is_word w (codes "*") then Ok operator.Mul else
    (if is_word w (codes "min") then Ok operator.Min else
    (if is_word w (codes "max") then Ok operator.Max else
    (if is_word w (codes "pick") then Ok operator.Pick else Err why.Word)))))

-- how many atoms stand behind an operator
abbrev pub atoms_behind : Operator → ℕ
atoms_behind operator.Add = 1
atoms_behind operator.Sub = 1
atoms_behind operator.Mul = 1
atoms_behind operator.Min = 1
atoms_behind operator.Max = 1
atoms_behind operator.Pick = 2

-- the atom that these words begin with
unfoldable pub first_atom : List Key → List (List ℕ) → Result Atom Why
first_atom known ws = do
  w ← word_at ws
  atom_of known w.0

-- a step whose atoms these words begin with
unfoldable pub one_atom : (Atom → Step) → List Key → List (List ℕ) → Result Step Why
one_atom make known ws = do
  a ← first_atom known ws
  Ok (make a)

unfoldable pub two_atoms : List Key → List (List ℕ) → Result Step Why
two_atoms known ws = do
  w ← word_at ws
  a ← atom_of known w.0
  b ← first_atom known w.1
  Ok (step.Pick a b)

unfoldable pub step_of : List Key → Operator → List (List ℕ) → Result Step Why
step_of known operator.Add ws = one_atom step.Add known ws
step_of known operator.Sub ws = one_atom step.Sub known ws
step_of known operator.Mul ws = one_atom step.Mul known ws
step_of known operator.Min ws = one_atom step.Min known ws
step_of known operator.Max ws = one_atom step.Max known ws
step_of known operator.Pick ws = two_atoms known ws

-- steps to the end of the line, at most so many
unfoldable pub steps_of : List Key → ℕ → List (List ℕ) → Result (List Step) Why
steps_of known room [] = Ok []
steps_of known zero (w ∷ ws) = do
  o ← operator_of w
  Err why.Limit
steps_of known (suc room) (w ∷ ws) = do
  o ← operator_of w
  s ← step_of known o ws
  more ← steps_of known room (drop (atoms_behind o) ws)
  Ok (s ∷ more)

-- an expression, over the keys that were read before
unfoldable pub expr_of : List Key → List (List ℕ) → Result Expr Why
expr_of known ws = do
  w ← word_at ws
  first ← atom_of known w.0
  steps ← steps_of known MAX_STEPS w.1
  Ok (record { first = first; steps = steps })
