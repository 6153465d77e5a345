-- The words of a line: nodes, keys, transactions. Each is read, or is at fault for one reason.
use Rattle.std.specs.Prelude.{ℕ, ◌==◌, ◌&&◌, nat_le, Bool, false, List, [], ◌∷◌, Option, Some, None, Result, Ok, Err, if◌then◌else◌}
use Rattle.score_base.specs.declared.keys.Key.{Key}
use Rattle.score_base.specs.declared.ids.NodeId.{NodeId}
use Rattle.score_base.specs.declared.ids.TxId.{TxId}
use Rattle.score_base.specs.Keys.{is_key, is_digit}
use Rattle.score_base.specs.Numbers.{number}
use Rattle.script_lang.specs.declared.whys.Why.{Why}
use Rattle.script_lang.specs.declared.whys.Why.TheVariants as why
use Rattle.script_lang.specs.declared.limits.TheConstants.{MAX_TX}

abbrev pub node_in : ℕ → Option ℕ → Result NodeId Why
node_in nodes None = Err why.Node
node_in nodes (Some n) = if nat_le 1 n && nat_le n nodes then Ok n else Err why.Node

-- a node: an 'n' and a number from 1 to the number of nodes
abbrev pub node_of : ℕ → List ℕ → Result NodeId Why
node_of nodes [] = Err why.Node
node_of nodes (b ∷ bs) = if b == 110 then node_in nodes (number bs) else Err why.Node

-- a key
abbrev pub key_of : List ℕ → Result Key Why
key_of w = if is_key w then Ok w else Err why.Key

abbrev pub tx_in : Option ℕ → Result TxId Why
tx_in None = Err why.Transaction
tx_in (Some t) = if nat_le 1 t && nat_le t MAX_TX then Ok t else Err why.Transaction

-- the number of a transaction, from 1 to 65,535
abbrev pub tx_of : List ℕ → Result TxId Why
tx_of w = tx_in (number w)

-- the first byte is a digit
abbrev pub begins_with_digit : List ℕ → Bool
begins_with_digit [] = false
begins_with_digit (b ∷ bs) = is_digit b

-- a byte from the space to the tilde
abbrev pub is_printed : ℕ → Bool
is_printed b = nat_le 32 b && nat_le b 126
