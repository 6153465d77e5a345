-- Which operation a transaction waits for.
use Rattle.std.specs.Prelude.{ℕ, ◌+◌, Bool, false, ◌&&◌, ◌==◌, not, List, [], ◌∷◌, Option, Some, None, is_some, if◌then◌else◌}
use Rattle.score_base.specs.declared.ids.Value.{Value}
use Rattle.score_base.specs.declared.keys.Key.{Key}
use Rattle.script_lang.specs.declared.scripts.Op.{Op}
use Rattle.script_lang.specs.declared.scripts.Op.TheVariants as op
use Rattle.script_lang.specs.Reads.{is_key_among, keys_named}

-- the value that was taken for an operation
abbrev pub value_taken : ℕ → List (ℕ × Value) → Option Value
value_taken j [] = None
value_taken j (x ∷ xs) = if x.0 == j then Some x.1 else value_taken j xs

-- operation j waits where no value was taken for it
abbrev pub first_open : Option Value → ℕ → Option ℕ → Option ℕ
first_open (Some v) j rest = rest
first_open None j rest = Some j

-- the first remote read without a taken value, of these operations, the first of which has number j
-- and before which the script names the keys seen
abbrev pub waiting_from : ℕ → List Key → List (ℕ × Value) → List Op → Option ℕ
waiting_from j seen values [] = None
waiting_from j seen values (op.Read k ∷ ops) =
    if is_key_among k seen then waiting_from (j + 1) seen values ops
    else first_open (value_taken j values) j (waiting_from (j + 1) (k ∷ seen) values ops)
waiting_from j seen values (op.Write k e ∷ ops) = waiting_from (j + 1) (k ∷ seen) values ops

-- the first remote read of a script without a taken value
abbrev pub waiting : List Op → List (ℕ × Value) → Option ℕ
waiting ops values = waiting_from 1 [] values ops

-- operation j, which stands behind these, reads a key that none of them names, and no value was taken for it
abbrev pub is_waiting : List (ℕ × Value) → ℕ → List Op → Op → Bool
is_waiting values j before (op.Read k) =
    not (is_key_among k (keys_named before)) && not (is_some (value_taken j values))
is_waiting values j before (op.Write k e) = false
