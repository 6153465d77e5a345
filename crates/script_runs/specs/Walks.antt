-- The walk over the operations of a script by the values that were taken for its remote reads.
use Rattle.std.specs.Prelude.{ℕ, zero, suc, ◌+◌, List, [], ◌∷◌, Option, Some, None, slice_get, if◌then◌else◌}
use Rattle.score_base.specs.declared.ids.Value.{Value}
use Rattle.score_base.specs.declared.keys.Key.{Key}
use Rattle.script_lang.specs.declared.exprs.Expr.{Expr}
use Rattle.script_lang.specs.declared.scripts.Op.{Op}
use Rattle.script_lang.specs.declared.scripts.Op.TheVariants as op
use Rattle.script_lang.specs.Exprs.{expr_value}
use Rattle.script_lang.specs.Reads.{is_key_among, key_of}
use Rattle.script_runs.specs.Serials.{Map, put, zeros}
use Rattle.script_runs.specs.Waits.{value_taken}

-- the transaction's own map, and the values of its latest reads
pub record Walk : Type 0 where
  pub mine : Map
  pub latest : Map

-- nothing is read or written yet
abbrev pub unread : Walk
unread = record { mine = zeros; latest = zeros }

-- an own read
abbrev pub read_step : Key → Walk → Walk
read_step k w = record w { latest = put w.latest k (w.mine k) }

-- a remote read with its taken value
abbrev pub taken_step : Key → Value → Walk → Walk
taken_step k v w = record { mine = put w.mine k v; latest = put w.latest k v }

-- a write
abbrev pub write_step : Key → Expr → Walk → Walk
write_step k e w = record w { mine = put w.mine k (expr_value w.latest e) }

-- what comes where a value was taken, or what stops where none was
abbrev pub if_taken : {A : Type 0} → Option Value → A → (Value → A) → A
if_taken None stop go = stop
if_taken (Some v) stop go = go v

-- the own reads of these operations, with their values, up to the first remote read without a taken value
abbrev pub own_reads : ℕ → List Key → Walk → List (ℕ × Value) → List Op → List (ℕ × Value)
own_reads j seen w values [] = []
own_reads j seen w values (op.Read k ∷ ops) =
    if is_key_among k seen
    then (j, w.mine k) ∷ own_reads (j + 1) seen (read_step k w) values ops
    else if_taken (value_taken j values) [] (λ v. own_reads (j + 1) (k ∷ seen) (taken_step k v w) values ops)
own_reads j seen w values (op.Write k e ∷ ops) = own_reads (j + 1) (k ∷ seen) (write_step k e w) values ops

-- the walk up to the first remote read without a taken value
abbrev pub walked : ℕ → List Key → Walk → List (ℕ × Value) → List Op → Walk
walked j seen w values [] = w
walked j seen w values (op.Read k ∷ ops) =
    if is_key_among k seen
    then walked (j + 1) seen (read_step k w) values ops
    else if_taken (value_taken j values) w (λ v. walked (j + 1) (k ∷ seen) (taken_step k v w) values ops)
walked j seen w values (op.Write k e ∷ ops) = walked (j + 1) (k ∷ seen) (write_step k e w) values ops

-- the transaction's own map behind all that was taken
abbrev pub own_map : List Op → List (ℕ × Value) → Map
own_map ops values = (walked 1 [] unread values ops).mine

-- operation j of these, numbered from 1
abbrev pub op_at : List Op → ℕ → Option Op
op_at ops zero = None
op_at ops (suc i) = slice_get ops i

-- the key of an operation, where there is one
abbrev pub op_key : Option Op → Option Key
op_key None = None
op_key (Some o) = Some (key_of o)
