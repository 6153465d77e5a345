-- Scripts, and what makes one well formed.
use Rattle.std.specs.Prelude.{ℕ, ◌≤◌, Bool, true, ◌&&◌, List, [], ◌∷◌, length, IsTrue}
use Rattle.score_base.specs.declared.ids.TxId.{TxId}
use Rattle.score_base.specs.declared.ids.NodeId.{NodeId}
use Rattle.score_base.specs.declared.keys.Key.{Key}
use Rattle.script_lang.specs.declared.scripts.Op.{Op}
use Rattle.script_lang.specs.declared.scripts.Op.TheVariants as op
use Rattle.script_lang.specs.Exprs.{is_expr_among}
use Rattle.script_lang.specs.declared.limits.TheConstants.{MAX_OPS}

-- a script: its number, its home, its session or 0 for none, its operations in order
pub record ScriptData : Type 0 where
  pub number : TxId
  pub home : NodeId
  pub session : ℕ
  pub ops : List Op

-- each expression has at most 16 steps and names only keys that were read before it
abbrev pub are_sound : List Key → List Op → Bool
are_sound known [] = true
are_sound known (op.Read k ∷ ops) = are_sound (k ∷ known) ops
are_sound known (op.Write k e ∷ ops) = is_expr_among known e && are_sound known ops

-- the operations of a script so far
pub record IsFront (ops : List Op) : Type 0 where
  pub most : length ops ≤ MAX_OPS
  pub sound : IsTrue (are_sound [] ops)

-- the operations of a script
pub record IsBody (ops : List Op) : Type 0 where
  pub least : 1 ≤ length ops
  pub most : length ops ≤ MAX_OPS
  pub sound : IsTrue (are_sound [] ops)
