-- The walk over a script's operations, with the maps as a program keeps them.
use Rattle.std.specs.Prelude.{ℕ, ◌&&◌, Bool, true, false, List, [], ◌∷◌, ◌++◌, Option, Some, None, is_none}
use Rattle.std.specs.FinMap as map
use Rattle.score_base.specs.declared.keys.Key.{Key}
use Rattle.score_base.specs.declared.ids.Value.{Value}
use Rattle.script_lang.specs.declared.scripts.Op.{Op}
use Rattle.script_lang.specs.declared.scripts.Op.TheVariants as op
use Rattle.script_lang.specs.Exprs.{expr_value}
use Rattle.script_lang.specs.Values.{value_in, has_each_key}
use Rattle.script_runs.specs.Waits.{value_taken}
use Rattle.script_runs.specs.declared.trails.Trail.{Trail}

-- a read: an own one where the key has a value, else a remote one with its taken value
abbrev pub read_by : ℕ → Key → Option Value → Option Value → Trail → Trail
read_by j k (Some v) taken m = record m { own = m.own ++ (j, v) ∷ []; latest = map.insert m.latest k v }
read_by j k None (Some v) m = record m { mine = map.insert m.mine k v; latest = map.insert m.latest k v }
read_by j k None None m = m

-- what is kept behind operation j
abbrev pub stepped : List (ℕ × Value) → ℕ → Op → Trail → Trail
stepped values j (op.Read k) m = read_by j k (map.get m.mine k) (value_taken j values) m
stepped values j (op.Write k e) m = record m { mine = map.insert m.mine k (expr_value (value_in m.latest) e) }

-- operation j is a remote read without a taken value
abbrev pub stops : List (ℕ × Value) → ℕ → Op → Trail → Bool
stops values j (op.Read k) m = is_none (map.get m.mine k) && is_none (value_taken j values)
stops values j (op.Write k e) m = false

-- the keys of an expression were read
abbrev pub is_ready : Op → Trail → Bool
is_ready (op.Read k) m = true
is_ready (op.Write k e) m = has_each_key m.latest e
