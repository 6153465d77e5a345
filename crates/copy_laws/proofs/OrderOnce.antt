-- In the serial order no transaction stands twice.
use Rattle.std.proofs.Common.{◌≡◌, ℕ, ◌+◌, ◌≤◌, Bool, true, false, ◌||◌, List, [], ◌∷◌, ◌++◌, inl, inr, zero, suc, refl, sym, ap, subst, ◌∙◌, arith, if◌then◌else◌}
use Rattle.std.proofs.lemmas.Bool.{or_cases, or_from}
use Rattle.std.proofs.lemmas.Bool.Decides.{nat_tests}
use Rattle.std.specs.Prelude.{◌==◌, fold}
use Rattle.std.specs.List.{flat_map, range_with_len}
use Rattle.score_base.specs.declared.ids.TxId.{TxId}
use Rattle.score_base.specs.declared.ids.NodeId.{NodeId}
use Rattle.score_base.specs.declared.ids.Ident.{Ident}
use Rattle.grid_model.specs.declared.acts.Act.{Act}
use Rattle.grid_model.specs.Documents.{DocumentData}
use Rattle.grid_model.specs.Nodes.{is_home, journal, script_of}
use Rattle.grid_model.specs.Copies.{all_decisions, order}
use Rattle.journal_words.specs.Orders.{decisions, insert_last, is_before}
use Rattle.grid_laws.proofs.Causes.{AllDue}
use Rattle.grid_laws.proofs.NodesFit.{home-one}
use Rattle.grid_laws.proofs.KnownDecisions.{has_tx}
use Rattle.grid_laws.proofs.DecisionsOnce.{AreOnce, decided-once, member-has}
use Rattle.grid_laws.proofs.DecisionsRest.{decisions-rest}
use Rattle.journal_words.proofs.Orders.{decisions-member, has_member}

-- a transaction of the one list is not among the other
abbrev AreApart : List (Ident × TxId) → List (Ident × TxId) → Type 0
AreApart xs ys = (t : TxId) → has_tx t xs ≡ true → has_tx t ys ≡ false

-- ---- lists

tx-append : (t : TxId) (xs ys : List (Ident × TxId)) → has_tx t (xs ++ ys) ≡ (has_tx t xs || has_tx t ys)
tx-append t [] ys = refl
tx-append t (x ∷ xs) ys = grind (arith, tx-append t xs ys)

tx-here : (x : Ident × TxId) (xs : List (Ident × TxId)) → has_tx x.1 (x ∷ xs) ≡ true
tx-here x xs = grind (arith, nat_tests)

tx-later : (t : TxId) (x : Ident × TxId) (xs : List (Ident × TxId)) → has_tx t xs ≡ true → has_tx t (x ∷ xs) ≡ true
tx-later t x xs h = grind (arith, h)

once-append : (xs ys : List (Ident × TxId)) → AreOnce xs → AreOnce ys → AreApart xs ys → AreOnce (xs ++ ys)
once-append [] ys h k apart = k
once-append (x ∷ xs) ys h k apart = (tx-append x.1 xs ys ∙ or_from (has_tx x.1 xs) (has_tx x.1 ys) h.0 (apart x.1 (tx-here x xs)), once-append xs ys h.1 k (λ t i. apart t (tx-later t x xs i)))

-- who is among the members is so with some identifier
tx-member : (t : TxId) (xs : List (Ident × TxId)) → has_tx t xs ≡ true → (f : Ident) × (has_member f t xs ≡ true)
tx-member t [] h = cc
tx-member t (x ∷ xs) h = elim (or_cases (x.1 == t) (has_tx t xs) h) [
  | inl here ↦ (x.0, grind (arith, nat_tests, here))
  | inr more ↦ (let w = tx-member t xs more in (w.0, grind (arith, w.1)))
]

-- ---- one member more

insert-tx : (t : TxId) (x : Ident × TxId) (ys : List (Ident × TxId))
    → has_tx t (insert_last ys x) ≡ ((x.1 == t) || has_tx t ys)
insert-tx t x [] = refl
insert-tx t x (y ∷ ys) = go (is_before y x) (insert-tx t x ys)
  where
    go : (b : Bool) → has_tx t (insert_last ys x) ≡ ((x.1 == t) || has_tx t ys)
        → has_tx t (if b then x ∷ (y ∷ ys) else y ∷ insert_last ys x) ≡ ((x.1 == t) || ((y.1 == t) || has_tx t ys))
    go true rest = refl
    go false rest = grind (arith, rest)

insert-once : (x : Ident × TxId) (ys : List (Ident × TxId)) → has_tx x.1 ys ≡ false → AreOnce ys
    → AreOnce (insert_last ys x)
insert-once x [] new h = (refl, tt)
insert-once x (y ∷ ys) new h = go (is_before y x) (insert-once x ys (grind (arith, new)) h.1)
  where
    other : (x.1 == y.1) ≡ false
    other = grind (arith, nat_tests, new)

    go : (b : Bool) → AreOnce (insert_last ys x) → AreOnce (if b then x ∷ (y ∷ ys) else y ∷ insert_last ys x)
    go true rest = (new, h)
    go false rest = (insert-tx y.1 x ys ∙ or_from (x.1 == y.1) (has_tx y.1 ys) other h.0, rest)

fold-once : (ys xs : List (Ident × TxId)) → AreOnce xs → AreOnce ys → AreApart xs ys → AreOnce (fold insert_last ys xs)
fold-once ys [] h k apart = k
fold-once ys (x ∷ xs) h k apart =
    fold-once (insert_last ys x) xs h.1 (insert-once x ys (apart x.1 (tx-here x xs)) k)
    (λ t i. insert-tx t x ys ∙ or_from (x.1 == t) (has_tx t ys) (other t i) (apart t (tx-later t x xs i)))
  where
    other : (t : TxId) → has_tx t xs ≡ true → (x.1 == t) ≡ false
    other t i = differ (x.1 == t) refl
      where
        differ : (b : Bool) → (x.1 == t) ≡ b → b ≡ false
        differ false e = refl
        differ true e = (let same : x.1 ≡ t = grind (arith, nat_tests, e) in let gone : has_tx t xs ≡ false = ap (λ u. has_tx u xs) (sym same) ∙ h.0 in cc)

-- ---- the nodes

-- a transaction of these nodes is one of a node from a on
range-tx : (t : TxId) (of : NodeId → List (Ident × TxId)) (a len : ℕ)
    → has_tx t (flat_map of (range_with_len a len)) ≡ true → (n : NodeId) × (a ≤ n) × (has_tx t (of n) ≡ true)
range-tx t of a zero h = cc
range-tx t of a (suc len) h = elim (or_cases (has_tx t (of a)) (has_tx t (flat_map of (range_with_len (a + 1) len))) (sym (tx-append t (of a) (flat_map of (range_with_len (a + 1) len))) ∙ h)) [
  | inl here ↦ (a, omega arith, here)
  | inr more ↦ (let w = range-tx t of (a + 1) len more in let le = w.1 in (w.0, omega arith, w.2))
]

-- each node has its own transactions
abbrev AreOwn : (NodeId → List (Ident × TxId)) → Type 0
AreOwn of = (t : TxId) (n k : NodeId) → has_tx t (of n) ≡ true → has_tx t (of k) ≡ true → n ≡ k

range-once : (of : NodeId → List (Ident × TxId)) → ((n : NodeId) → AreOnce (of n)) → AreOwn of → (a len : ℕ)
    → AreOnce (flat_map of (range_with_len a len))
range-once of once own a zero = tt
range-once of once own a (suc len) = once-append (of a) (flat_map of (range_with_len (a + 1) len)) (once a) (range-once of once own (a + 1) len) (λ t i. apart t i (has_tx t (flat_map of (range_with_len (a + 1) len))) refl)
  where
    apart : (t : TxId) → has_tx t (of a) ≡ true → (b : Bool) → has_tx t (flat_map of (range_with_len (a + 1) len)) ≡ b
        → b ≡ false
    apart t i false e = refl
    apart t i true e = (let w = range-tx t of (a + 1) len e in let le = w.1 in let same : a ≡ w.0 = own t a w.0 i w.2 in absurd (omega arith))

-- ---- decisions

-- a decision stands at the home alone
decided-home : (d : DocumentData) (past : List Act) (n : NodeId) (t : TxId) → AllDue d past
    → has_tx t (decisions (journal d past n)) ≡ true → is_home d t n ≡ true
decided-home d past n t due h =
    let w = tx-member t (decisions (journal d past n)) h in
    (decisions-rest d past due false n t w.0 (sym (decisions-member w.0 t (journal d past n)) ∙ w.1)).0

all-once : (d : DocumentData) (past : List Act) → AllDue d past → AreOnce (all_decisions d past)
all-once d past due = range-once (λ n. decisions (journal d past n)) (decided-once d past due) (λ t n k h i. home-one (script_of t d.scripts) n k (decided-home d past n t due h) (decided-home d past k t due i)) 1 d.cluster.nodes

-- in the order no transaction stands twice
order-once : (d : DocumentData) (past : List Act) → AllDue d past → AreOnce (order d past)
order-once d past due = fold-once [] (all_decisions d past) (all-once d past due) tt (λ t i. refl)

-- so none that comes before a member is of its transaction
pub once-before : (d : DocumentData) (past : List Act) (ys xs : List (Ident × TxId)) (f g : Ident) (t : TxId)
    → AllDue d past → order d past ≡ ys ++ (f, t) ∷ xs → has_member g t xs ≡ true → ⊥
once-before d past ys xs f g t due at h = twice ys (subst AreOnce at (order-once d past due))
  where
    twice : (ys : List (Ident × TxId)) → AreOnce (ys ++ (f, t) ∷ xs) → ⊥
    twice [] all = (let there = member-has g t xs h in let none = all.0 in cc)
    twice (y ∷ ys) all = twice ys all.1
