-- What comes before a member of a falling list, and what an identifier below it leaves of the list.
use Rattle.std.proofs.Common.{◌≡◌, ◌<◌, false, List, [], ◌∷◌, ◌++◌, refl, arith}
use Rattle.std.proofs.lemmas.Bool.Decides.{nat_tests}
use Rattle.std.specs.Prelude.{nat_le}
use Rattle.score_base.specs.declared.ids.TxId.{TxId}
use Rattle.score_base.specs.declared.ids.Ident.{Ident}
use Rattle.journal_words.specs.Orders.{is_before, members_to}
use Rattle.journal_words.proofs.Orders.{AllUpTo, AreFalling}

up_to-behind : (y : Ident × TxId) (ys : List (Ident × TxId)) (x : Ident × TxId) (xs : List (Ident × TxId))
    → AllUpTo y (ys ++ x ∷ xs) → is_before y x ≡ false
up_to-behind y [] x xs all = all.0
up_to-behind y (z ∷ ys) x xs all = up_to-behind y ys x xs all.1

-- an identifier below a member leaves only members that come before it
pub members-before : (s : Ident) (ys : List (Ident × TxId)) (x : Ident × TxId) (xs : List (Ident × TxId))
    → AreFalling (ys ++ x ∷ xs) → s < x.0 → members_to s (ys ++ x ∷ xs) ≡ members_to s xs
members-before s [] x xs fall lt =
    let test : nat_le x.0 s ≡ false = grind (arith, nat_tests, lt) in
    rw test refl
members-before s (y ∷ ys) x xs fall lt =
    let up : is_before y x ≡ false = up_to-behind y ys x xs fall.0 in
    let test : nat_le y.0 s ≡ false = grind (arith, nat_tests, lt, up) in
    rw test (members-before s ys x xs fall.1 lt)
