-- The words and lines by which expressions and scripts are written.
use Rattle.std.specs.Prelude.{ℕ, ◌^◌, ◌==◌, ◌&&◌, if◌then◌else◌, nat_lt, Bool, true, List, [], ◌∷◌, ◌++◌, map, codes}
use Rattle.std.specs.List.{flat_map, join_with_byte}
use Rattle.std.specs.Fmt.{decimal}
use Rattle.score_base.specs.Keys.{is_key}
use Rattle.script_lang.specs.declared.exprs.Atom.{Atom}
use Rattle.script_lang.specs.declared.exprs.Atom.TheVariants as atom
use Rattle.script_lang.specs.declared.exprs.Step.{Step}
use Rattle.script_lang.specs.declared.exprs.Step.TheVariants as step
use Rattle.script_lang.specs.declared.exprs.Expr.{Expr}
use Rattle.script_lang.specs.declared.scripts.Op.{Op}
use Rattle.script_lang.specs.declared.scripts.Op.TheVariants as op
use Rattle.script_lang.specs.Scripts.{ScriptData}

-- the word of an atom
abbrev pub atom_word : Atom → List ℕ
atom_word (atom.Number v) = decimal v
atom_word (atom.Key k) = k

-- the words of a step
abbrev pub step_words : Step → List (List ℕ)
step_words (step.Add a) = codes "+" ∷ atom_word a ∷ []
step_words (step.Sub a) = codes "-" ∷ atom_word a ∷ []
step_words (step.Mul a) = codes "*" ∷ atom_word a ∷ []
step_words (step.Min a) = codes "min" ∷ atom_word a ∷ []
step_words (step.Max a) = codes "max" ∷ atom_word a ∷ []
step_words (step.Pick a b) = codes "pick" ∷ atom_word a ∷ atom_word b ∷ []

-- the words of an expression
abbrev pub expr_words : Expr → List (List ℕ)
expr_words e = atom_word e.first ∷ flat_map step_words e.steps

-- the words of an operation
abbrev pub op_words : Op → List (List ℕ)
op_words (op.Read k) = codes "read" ∷ k ∷ []
op_words (op.Write k e) = codes "write" ∷ k ∷ expr_words e

-- the words that name a session, or none where there is none
abbrev pub session_words : ℕ → List (List ℕ)
session_words s = if s == 0 then [] else codes "session" ∷ decimal s ∷ []

-- the words of the first line of a script
abbrev pub tx_words : ScriptData → List (List ℕ)
tx_words s = codes "tx" ∷ decimal s.number ∷ (110 ∷ decimal s.home) ∷ session_words s.session

-- the words of each line of a script
abbrev pub script_words : ScriptData → List (List (List ℕ))
script_words s = tx_words s ∷ (map op_words s.ops ++ (codes "end" ∷ []) ∷ [])

-- the lines of a script: the words of each, with single spaces between them
abbrev pub script_lines : ScriptData → List (List ℕ)
script_lines s = map (join_with_byte 32) (script_words s)

-- the text of a script: each line ended by a line feed
abbrev pub script_text : ScriptData → List ℕ
script_text s = flat_map (λ line. line ++ 10 ∷ []) (script_lines s)

-- a number is below 2^64, and a key is a key
abbrev pub is_plain_atom : Atom → Bool
is_plain_atom (atom.Number v) = nat_lt v (2 ^ 64)
is_plain_atom (atom.Key k) = is_key k

abbrev pub is_plain_step : Step → Bool
is_plain_step (step.Add a) = is_plain_atom a
is_plain_step (step.Sub a) = is_plain_atom a
is_plain_step (step.Mul a) = is_plain_atom a
is_plain_step (step.Min a) = is_plain_atom a
is_plain_step (step.Max a) = is_plain_atom a
is_plain_step (step.Pick a b) = is_plain_atom a && is_plain_atom b

abbrev pub are_plain_steps : List Step → Bool
are_plain_steps [] = true
are_plain_steps (s ∷ ss) = is_plain_step s && are_plain_steps ss

-- each number of an expression is below 2^64, and each key is a key
abbrev pub is_plain_expr : Expr → Bool
is_plain_expr e = is_plain_atom e.first && are_plain_steps e.steps

-- the key is one, and so is each key of the expression, whose numbers are below 2^64
abbrev pub is_plain_op : Op → Bool
is_plain_op (op.Read k) = is_key k
is_plain_op (op.Write k e) = is_key k && is_plain_expr e
