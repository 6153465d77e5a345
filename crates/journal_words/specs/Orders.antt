-- The order in which decisions take effect.
use Rattle.std.specs.Prelude.{Bool, ◌&&◌, ◌||◌, ◌==◌, nat_lt, nat_le, filter, List, [], ◌∷◌, if◌then◌else◌}
use Rattle.score_base.specs.declared.ids.TxId.{TxId}
use Rattle.score_base.specs.declared.ids.Ident.{Ident}
use Rattle.score_base.specs.declared.records.Record.{Record}
use Rattle.score_base.specs.declared.records.Record.TheVariants as record'

-- the final identifiers and numbers of the Decided
abbrev pub decisions : List Record → List (Ident × TxId)
decisions [] = []
decisions (record'.Decided t f parts ∷ r) = (f, t) ∷ decisions r
decisions (x ∷ r) = decisions r

-- a lesser final identifier, or the same and a lesser number
abbrev pub is_before : Ident × TxId → Ident × TxId → Bool
is_before x y = nat_lt x.0 y.0 || (x.0 == y.0 && nat_lt x.1 y.1)

-- a member more in a list whose last member in the order stands first
abbrev pub insert_last : List (Ident × TxId) → Ident × TxId → List (Ident × TxId)
insert_last [] x = x ∷ []
insert_last (y ∷ ys) x = if is_before y x then x ∷ (y ∷ ys) else y ∷ insert_last ys x

-- the members of the order with a final identifier of at most s
abbrev pub members_to : Ident → List (Ident × TxId) → List (Ident × TxId)
members_to s xs = filter (λ x. nat_le x.0 s) xs
