-- The values that a transaction has read, by key.
use Rattle.std.specs.Prelude.{ℕ, Bool}
use Rattle.std.specs.Ordering.{nat_cmp}
use Rattle.std.specs.Option.{unwrap_or}
use Rattle.std.specs.Cmp.Lexicographic.{slice_cmp}
use Rattle.std.specs.FinMap as map
use Rattle.score_base.specs.declared.keys.Key.{Key}
use Rattle.score_base.specs.declared.ids.Value.{Value}
use Rattle.script_lang.specs.declared.exprs.Expr.{Expr}
use Rattle.script_lang.specs.Exprs.{all_in_expr}

-- the value of each key that has one
abbrev pub ReadValues : Type 0
ReadValues = map.FinMap (slice_cmp nat_cmp) ℕ

-- the value of a key, or 0 where it has none
abbrev pub value_in : ReadValues → Key → Value
value_in reads k = unwrap_or (map.get reads k) 0

-- each key of the expression has a value
abbrev pub has_each_key : ReadValues → Expr → Bool
has_each_key reads e = all_in_expr (map.contains_key reads) e
