-- A script run alone on one map.
use Rattle.std.specs.Prelude.{ℕ, ◌+◌, List, [], ◌∷◌, if◌then◌else◌}
use Rattle.score_base.specs.declared.keys.Key.{Key}
use Rattle.score_base.specs.declared.ids.Value.{Value}
use Rattle.score_base.specs.Keys.{same_key}
use Rattle.script_lang.specs.declared.scripts.Op.{Op}
use Rattle.script_lang.specs.declared.scripts.Op.TheVariants as op
use Rattle.script_lang.specs.Exprs.{expr_value}

-- a map from keys to values
abbrev pub Map : Type 0
Map = Key → Value

-- the map with this value at the key
abbrev pub put : Map → Key → Value → Map
put m k v = λ x. if same_key k x then v else m x

-- each key has the value 0
abbrev pub zeros : Map
zeros = λ k. 0

-- the reads of these operations in order, the first operation having number j: each with its number
-- and the value of its key. Keys in expressions stand for the values of their latest reads.
abbrev pub serial_reads : ℕ → Map → Map → List Op → List (ℕ × Value)
serial_reads j m latest [] = []
serial_reads j m latest (op.Read k ∷ ops) = (j, m k) ∷ serial_reads (j + 1) m (put latest k (m k)) ops
serial_reads j m latest (op.Write k e ∷ ops) = serial_reads (j + 1) (put m k (expr_value latest e)) latest ops

-- the map that these operations leave
abbrev pub serial_map : Map → Map → List Op → Map
serial_map m latest [] = m
serial_map m latest (op.Read k ∷ ops) = serial_map m (put latest k (m k)) ops
serial_map m latest (op.Write k e ∷ ops) = serial_map (put m k (expr_value latest e)) latest ops

-- what the reads of a script give on a map
abbrev pub reads_on : Map → List Op → List (ℕ × Value)
reads_on m ops = serial_reads 1 m zeros ops

-- the map that a script leaves
abbrev pub map_behind : Map → List Op → Map
map_behind m ops = serial_map m zeros ops
