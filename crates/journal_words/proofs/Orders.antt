-- In which order do the decisions stand, and which are among them?
use Rattle.std.proofs.Common.{◌≡◌, inl, inr, Bool, true, false, ◌&&◌, ◌||◌, List, [], ◌∷◌, ◌++◌, refl, sym, ap, ◌∙◌, arith, if◌then◌else◌}
use Rattle.std.proofs.lemmas.Bool.{or_cases}
use Rattle.std.proofs.lemmas.Bool.Decides.{nat_tests}
use Rattle.std.specs.Prelude.{◌==◌, nat_le, fold}
use Rattle.std.specs.List.{flat_map}
use Rattle.score_base.specs.declared.ids.TxId.{TxId}
use Rattle.score_base.specs.declared.ids.NodeId.{NodeId}
use Rattle.score_base.specs.declared.ids.Ident.{Ident}
use Rattle.score_base.specs.declared.records.Record.{Record}
use Rattle.score_base.specs.declared.records.Record.TheVariants as record'
use Rattle.journal_words.specs.Orders.{decisions, is_before, insert_last, members_to}
use Rattle.journal_words.specs.Journals.{has_decided}

-- ---- the order is falling

-- none of these comes behind x
abbrev pub AllUpTo : Ident × TxId → List (Ident × TxId) → Type 0
AllUpTo x [] = Unit {0}
AllUpTo x (y ∷ ys) = (is_before x y ≡ false) × AllUpTo x ys

-- each is at or behind all that follow it
abbrev pub AreFalling : List (Ident × TxId) → Type 0
AreFalling [] = Unit {0}
AreFalling (x ∷ xs) = AllUpTo x xs × AreFalling xs

before-not : (x y : Ident × TxId) → is_before y x ≡ true → is_before x y ≡ false
before-not x y h = grind (arith, nat_tests, h)

before-through : (x y z : Ident × TxId) → is_before y x ≡ true → is_before y z ≡ false → is_before x z ≡ false
before-through x y z h k = grind (arith, nat_tests, h, k)

up_to-through : (x y : Ident × TxId) (zs : List (Ident × TxId)) → is_before y x ≡ true → AllUpTo y zs → AllUpTo x zs
up_to-through x y [] h all = tt
up_to-through x y (z ∷ zs) h all = (before-through x y z h all.0, up_to-through x y zs h all.1)

up_to-inserted : (y x : Ident × TxId) (zs : List (Ident × TxId)) → is_before y x ≡ false → AllUpTo y zs
    → AllUpTo y (insert_last zs x)
up_to-inserted y x [] h all = (h, tt)
up_to-inserted y x (z ∷ zs) h all = go (is_before z x) (up_to-inserted y x zs h all.1)
  where
    go : (b : Bool) → AllUpTo y (insert_last zs x) → AllUpTo y (if b then x ∷ (z ∷ zs) else z ∷ insert_last zs x)
    go true rest = (h, all)
    go false rest = (all.0, rest)

pub insert-falling : (x : Ident × TxId) (ys : List (Ident × TxId)) → AreFalling ys → AreFalling (insert_last ys x)
insert-falling x [] h = (tt, tt)
insert-falling x (y ∷ ys) h = go (is_before y x) refl (insert-falling x ys h.1)
  where
    go : (b : Bool) → is_before y x ≡ b → AreFalling (insert_last ys x)
        → AreFalling (if b then x ∷ (y ∷ ys) else y ∷ insert_last ys x)
    go true e rest = ((before-not x y e, up_to-through x y ys e h.0), h)
    go false e rest = (up_to-inserted y x ys e h.0, rest)

pub fold-falling : (ys xs : List (Ident × TxId)) → AreFalling ys → AreFalling (fold insert_last ys xs)
fold-falling ys [] h = h
fold-falling ys (x ∷ xs) h = fold-falling (insert_last ys x) xs (insert-falling x ys h)

-- ---- its members

-- the pair is a member
abbrev pub has_member : Ident → TxId → List (Ident × TxId) → Bool
has_member f t [] = false
has_member f t (x ∷ xs) = (x.0 == f && x.1 == t) || has_member f t xs

pub insert-member : (f : Ident) (t : TxId) (x : Ident × TxId) (ys : List (Ident × TxId))
    → has_member f t (insert_last ys x) ≡ ((x.0 == f && x.1 == t) || has_member f t ys)
insert-member f t x [] = refl
insert-member f t x (y ∷ ys) = go (is_before y x) (insert-member f t x ys)
  where
    go : (b : Bool) → has_member f t (insert_last ys x) ≡ ((x.0 == f && x.1 == t) || has_member f t ys)
        → has_member f t (if b then x ∷ (y ∷ ys) else y ∷ insert_last ys x)
        ≡ ((x.0 == f && x.1 == t) || ((y.0 == f && y.1 == t) || has_member f t ys))
    go true rest = refl
    go false rest = grind (arith, rest)

pub fold-member : (f : Ident) (t : TxId) (ys xs : List (Ident × TxId))
    → has_member f t (fold insert_last ys xs) ≡ (has_member f t xs || has_member f t ys)
fold-member f t ys [] = refl
fold-member f t ys (x ∷ xs) = grind (arith, fold-member f t (insert_last ys x) xs, insert-member f t x ys)

pub member-append : (f : Ident) (t : TxId) (xs ys : List (Ident × TxId))
    → has_member f t (xs ++ ys) ≡ (has_member f t xs || has_member f t ys)
member-append f t [] ys = refl
member-append f t (x ∷ xs) ys = grind (arith, member-append f t xs ys)

-- the members of a node's decisions are what it decided
pub decisions-member : (f : Ident) (t : TxId) (r : List Record) → has_member f t (decisions r) ≡ has_decided t f r
decisions-member f t [] = refl
decisions-member f t (record'.Decided u g parts ∷ r) = grind (arith, decisions-member f t r)
decisions-member f t (y ∷ r) = decisions-member f t r

-- a member of the decisions of these nodes is one of a node among them
pub nodes-member : (f : Ident) (t : TxId) (of : NodeId → List (Ident × TxId)) (ns : List NodeId)
    → has_member f t (flat_map of ns) ≡ true → (n : NodeId) × (has_member f t (of n) ≡ true)
nodes-member f t of [] h = absurd (grind (arith, h))
nodes-member f t of (n ∷ ns) h = elim (or_cases (has_member f t (of n)) (has_member f t (flat_map of ns)) (sym (member-append f t (of n) (flat_map of ns)) ∙ h)) [
  | inl here ↦ (n, here)
  | inr more ↦ nodes-member f t of ns more
]

-- those up to an identifier
pub members_to-member : (s f : Ident) (t : TxId) (xs : List (Ident × TxId))
    → has_member f t (members_to s xs) ≡ (has_member f t xs && nat_le f s)
members_to-member s f t [] = refl
members_to-member s f t (x ∷ xs) = go (nat_le x.0 s) same (members_to-member s f t xs)
  where
    same : (x.0 == f && x.1 == t) ≡ true → nat_le f s ≡ nat_le x.0 s
    same h = (let e : f ≡ x.0 = grind (arith, nat_tests, h) in ap (λ g. nat_le g s) e)

    go : (b : Bool) → ((x.0 == f && x.1 == t) ≡ true → nat_le f s ≡ b)
        → has_member f t (members_to s xs) ≡ (has_member f t xs && nat_le f s)
        → has_member f t (if b then x ∷ members_to s xs else members_to s xs)
        ≡ (((x.0 == f && x.1 == t) || has_member f t xs) && nat_le f s)
    go true e rest = grind (arith, e, rest)
    go false e rest = grind (arith, e, rest)
