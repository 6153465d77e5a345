-- A desk: its transactions in the order of beginning, each with where it stands.
use Rattle.std.specs.Prelude.{nat_eq, Bool, true, false, List, Option, Some, None}
use Rattle.std.specs.Map.{lookup}
use Rattle.score_base.specs.declared.ids.TxId.{TxId}
use Rattle.presumed_abort.specs.declared.stands.Stand.{Stand}
use Rattle.presumed_abort.specs.declared.stands.Stand.TheVariants as stand

-- where t stands, if it is at the desk
abbrev pub standing : List (TxId × Stand) → TxId → Option Stand
standing desk t = lookup (nat_eq t) desk

-- it is there, and not away
abbrev pub is_here : Option Stand → Bool
is_here None = false
is_here (Some stand.Away) = false
is_here (Some s) = true
