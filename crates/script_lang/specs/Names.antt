-- What was named before: the keys, and the numbers of the scripts.
use Rattle.std.specs.Prelude.{ℕ, ◌==◌, nat_le, Bool, length, Result, Ok, Err, if◌then◌else◌}
use Rattle.std.specs.List.{list_any}
use Rattle.std.specs.Ordering.{nat_cmp}
use Rattle.std.specs.Cmp.Lexicographic.{slice_cmp}
use Rattle.std.specs.BTreeSet.{BTreeSet, insert_key}
use Rattle.score_base.specs.declared.keys.Key.{Key}
use Rattle.score_base.specs.declared.ids.TxId.{TxId}
use Rattle.score_base.specs.Keys.{same_key}
use Rattle.script_lang.specs.declared.whys.Why.{Why}
use Rattle.script_lang.specs.declared.whys.Why.TheVariants as why

-- the key is among those named so far
abbrev pub has_name : BTreeSet Key → Key → Bool
has_name named k = list_any (same_key k) named.keys

-- the number is that of a script
abbrev pub is_taken : BTreeSet TxId → TxId → Bool
is_taken numbers t = list_any (λ u. u == t) numbers.keys

-- the keys named so far, and this one
abbrev pub with_key : BTreeSet Key → Key → BTreeSet Key
with_key named k = record { keys = insert_key (slice_cmp nat_cmp) named.keys k }

-- the numbers of the scripts, and this one
abbrev pub with_number : BTreeSet TxId → TxId → BTreeSet TxId
with_number numbers t = record { keys = insert_key nat_cmp numbers.keys t }

-- the keys named so far and this one, at most so many
abbrev pub name_key : ℕ → BTreeSet Key → Key → Result (BTreeSet Key) Why
name_key most named k = if nat_le (length (with_key named k).keys) most then Ok (with_key named k) else Err why.Limit

-- no script has the number
abbrev pub new_number : BTreeSet TxId → TxId → Result (Unit {0}) Why
new_number numbers t = if is_taken numbers t then Err why.Repeat else Ok tt
