-- Which keys a list of locks holds: more locks, and without those of one transaction.
use Prim.Native.Nat.{zero, suc}
use Rattle.std.proofs.Common.{◌≡◌, ℕ, Bool, true, false, not, cond, ◌&&◌, ◌||◌, List, [], ◌∷◌, ◌++◌, refl, sym, ap, ◌∙◌, nat_eq, arith, inl, inr}
use Rattle.std.specs.Cmp.{IsTotalOrder, unsigned_tied, both_tied, then_total, on_total, nat_cmp_total}
use Rattle.std.specs.Cmp.Lexicographic.{slice_cmp, nat_list_cmp_total, nat_list_eq_equiv, texts_ties}
use Rattle.std.specs.Ordering.{nat_cmp, eq_by_cmp}
use Rattle.std.specs.List.{filter, insert}
use Rattle.std.specs.FinSet as set
use Rattle.std.proofs.lemmas.Bool.Decides.{nat_tests}
use Rattle.lock_table.proofs.Least.{one_of, both_of, or_first, or_later}
use Rattle.lock_table.specs.Keys.{by_transaction}
use Rattle.lock_table.specs.Table.{Lock, is_at, holds_in, writes_in, place, places, written_places, lock_of, locks_of}

pub by_transaction_total : IsTotalOrder by_transaction
by_transaction_total = then_total (on_total (λ p. p.0) nat_cmp_total) (on_total (λ p. p.1) nat_list_cmp_total)

tied : (l : Lock) (u : ℕ) (k : List ℕ) → eq_by_cmp by_transaction (u, k) (place l) ≡ is_at l u k
tied l u k = sym (both_tied _ _ (nat_cmp u l.t) (slice_cmp nat_cmp k l.key) (sym (unsigned_tied u l.t)) (nat_list_eq_equiv.symm l.key k ∙ texts_ties k l.key))

pub held_is : (ls : List Lock) (u : ℕ) (k : List ℕ)
    → set.contains (set.from_list {R = by_transaction} (places ls)) (u, k) ≡ holds_in ls u k
held_is [] u k = set.contains-empty by_transaction (u, k)
held_is (l ∷ ls) u k =
    set.contains-insert by_transaction_total (set.from_list (places ls)) (place l) (u, k)
    ∙ ap (λ b. b || set.contains (set.from_list {R = by_transaction} (places ls)) (u, k)) (tied l u k)
    ∙ ap (λ b. is_at l u k || b) (held_is ls u k)

pub and_true : (a : Bool) → a ≡ (a && true)
and_true true = refl
and_true false = refl

and_false : (a w : Bool) → w ≡ ((a && false) || w)
and_false true w = refl
and_false false w = refl

written_head : (l : Lock) (rest : List Lock) (u : ℕ) (k : List ℕ) (w b : Bool)
    → set.contains (set.from_list {R = by_transaction} (places rest)) (u, k) ≡ w
    → set.contains (set.from_list {R = by_transaction} (places (cond b (l ∷ rest) rest))) (u, k)
    ≡ ((is_at l u k && b) || w)
written_head l rest u k w true is =
    set.contains-insert by_transaction_total (set.from_list (places rest)) (place l) (u, k)
    ∙ ap (λ b. b || set.contains (set.from_list {R = by_transaction} (places rest)) (u, k)) (tied l u k)
    ∙ ap (λ b. is_at l u k || b) is
    ∙ ap (λ b. b || w) (and_true (is_at l u k))
written_head l rest u k w false is = is ∙ and_false (is_at l u k) w

pub written_is : (ls : List Lock) (u : ℕ) (k : List ℕ)
    → set.contains (set.from_list {R = by_transaction} (written_places ls)) (u, k) ≡ writes_in ls u k
written_is [] u k = set.contains-empty by_transaction (u, k)
written_is (l ∷ ls) u k = written_head l (filter (λ (x : Lock). x.writes) ls) u k (writes_in ls u k) l.writes (written_is ls u k)

or_assoc : (a b c : Bool) → (a || (b || c)) ≡ ((a || b) || c)
or_assoc true b c = refl
or_assoc false b c = refl

pub holds_in-append : (xs ys : List Lock) (u : ℕ) (k : List ℕ)
    → holds_in (xs ++ ys) u k ≡ (holds_in xs u k || holds_in ys u k)
holds_in-append [] ys u k = refl
holds_in-append (x ∷ xs) ys u k = ap (λ b. is_at x u k || b) (holds_in-append xs ys u k) ∙ or_assoc (is_at x u k) (holds_in xs u k) (holds_in ys u k)

pub writes_in-append : (xs ys : List Lock) (u : ℕ) (k : List ℕ)
    → writes_in (xs ++ ys) u k ≡ (writes_in xs u k || writes_in ys u k)
writes_in-append [] ys u k = refl
writes_in-append (x ∷ xs) ys u k = ap (λ b. (is_at x u k && x.writes) || b) (writes_in-append xs ys u k) ∙ or_assoc (is_at x u k && x.writes) (writes_in xs u k) (writes_in ys u k)

nothing_of : (a : Bool) → false ≡ (a && false)
nothing_of true = refl
nothing_of false = refl

-- ---- without the locks of t

-- whether a lock is of another transaction than t
abbrev pub is_other : ℕ → Lock → Bool
is_other t l = not (nat_eq l.t t)

dropped : (a x c : Bool) → (x ≡ true → a ≡ true) → (not a && c) ≡ (not a && (x || c))
dropped true x c h = refl
dropped false true c h = let bad : false ≡ true = h refl in cc
dropped false false c h = refl

kept : (a x c : Bool) → (x ≡ true → a ≡ false) → (x || (not a && c)) ≡ (not a && (x || c))
kept true true c h = let bad : true ≡ false = h refl in cc
kept true false c h = refl
kept false x c h = refl

holds_head : (t : ℕ) (l : Lock) (ls rest : List Lock) (u : ℕ) (k : List ℕ) (b : Bool) → nat_eq l.t t ≡ b
    → holds_in rest u k ≡ (not (nat_eq u t) && holds_in ls u k)
    → holds_in (cond (not b) (l ∷ rest) rest) u k ≡ (not (nat_eq u t) && holds_in (l ∷ ls) u k)
holds_head t l ls rest u k true is later = later ∙ dropped (nat_eq u t) (is_at l u k) (holds_in ls u k) (λ at. grind (arith, nat_tests))
holds_head t l ls rest u k false is later = ap (λ b. is_at l u k || b) later ∙ kept (nat_eq u t) (is_at l u k) (holds_in ls u k) (λ at. grind (arith, nat_tests))

pub holds_in-filter : (t : ℕ) (ls : List Lock) (u : ℕ) (k : List ℕ)
    → holds_in (filter (is_other t) ls) u k ≡ (not (nat_eq u t) && holds_in ls u k)
holds_in-filter t [] u k = nothing_of (not (nat_eq u t))
holds_in-filter t (l ∷ ls) u k = holds_head t l ls (filter (is_other t) ls) u k (nat_eq l.t t) refl (holds_in-filter t ls u k)

writes_head : (t : ℕ) (l : Lock) (ls rest : List Lock) (u : ℕ) (k : List ℕ) (b : Bool) → nat_eq l.t t ≡ b
    → writes_in rest u k ≡ (not (nat_eq u t) && writes_in ls u k)
    → writes_in (cond (not b) (l ∷ rest) rest) u k ≡ (not (nat_eq u t) && writes_in (l ∷ ls) u k)
writes_head t l ls rest u k true is later = later ∙ dropped (nat_eq u t) (is_at l u k && l.writes) (writes_in ls u k) (λ at. grind (arith, nat_tests))
writes_head t l ls rest u k false is later = ap (λ b. (is_at l u k && l.writes) || b) later ∙ kept (nat_eq u t) (is_at l u k && l.writes) (writes_in ls u k) (λ at. grind (arith, nat_tests))

pub writes_in-filter : (t : ℕ) (ls : List Lock) (u : ℕ) (k : List ℕ)
    → writes_in (filter (is_other t) ls) u k ≡ (not (nat_eq u t) && writes_in ls u k)
writes_in-filter t [] u k = nothing_of (not (nat_eq u t))
writes_in-filter t (l ∷ ls) u k = writes_head t l ls (filter (is_other t) ls) u k (nat_eq l.t t) refl (writes_in-filter t ls u k)

-- ---- with one lock more

or_later_too : (a b : Bool) → (a || b) ≡ (b || a)
or_later_too true true = refl
or_later_too true false = refl
or_later_too false true = refl
or_later_too false false = refl

pub holds_insert : (ps : List ((List ℕ × ℕ) × Bool)) (i : ℕ) (x : (List ℕ × ℕ) × Bool) (u : ℕ) (k : List ℕ)
    → holds_in (locks_of (insert ps i x)) u k ≡ (holds_in (locks_of ps) u k || is_at (lock_of x) u k)
holds_insert ps zero x u k = or_later_too (is_at (lock_of x) u k) (holds_in (locks_of ps) u k)
holds_insert [] (suc i) x u k = or_later_too (is_at (lock_of x) u k) false
holds_insert (p ∷ ps) (suc i) x u k =
    ap (λ b. is_at (lock_of p) u k || b) (holds_insert ps i x u k)
    ∙ or_assoc (is_at (lock_of p) u k) (holds_in (locks_of ps) u k) (is_at (lock_of x) u k)

pub writes_insert : (ps : List ((List ℕ × ℕ) × Bool)) (i : ℕ) (x : (List ℕ × ℕ) × Bool) (u : ℕ) (k : List ℕ)
    → writes_in (locks_of (insert ps i x)) u k ≡ (writes_in (locks_of ps) u k || (is_at (lock_of x) u k && x.1))
writes_insert ps zero x u k = or_later_too (is_at (lock_of x) u k && x.1) (writes_in (locks_of ps) u k)
writes_insert [] (suc i) x u k = or_later_too (is_at (lock_of x) u k && x.1) false
writes_insert (p ∷ ps) (suc i) x u k =
    ap (λ b. (is_at (lock_of p) u k && p.1) || b) (writes_insert ps i x u k)
    ∙ or_assoc (is_at (lock_of p) u k && p.1) (writes_in (locks_of ps) u k) (is_at (lock_of x) u k && x.1)

-- ---- a table without the locks of t

map_kept : (b : Bool) (p : (List ℕ × ℕ) × Bool) (rest : List ((List ℕ × ℕ) × Bool))
    → locks_of (cond (not b) (p ∷ rest) rest) ≡ cond (not b) (lock_of p ∷ locks_of rest) (locks_of rest)
map_kept true p rest = refl
map_kept false p rest = refl

pub locks_of-filter : (t : ℕ) (ps : List ((List ℕ × ℕ) × Bool))
    → locks_of (filter (λ p. not (nat_eq p.0.1 t)) ps) ≡ filter (is_other t) (locks_of ps)
locks_of-filter t [] = refl
locks_of-filter t (p ∷ ps) =
    map_kept (nat_eq p.0.1 t) p (filter (λ q. not (nat_eq q.0.1 t)) ps)
    ∙ ap (λ ls. cond (not (nat_eq p.0.1 t)) (lock_of p ∷ ls) ls) (locks_of-filter t ps)

-- a key that is written is held
pub written_held : (ls : List Lock) (u : ℕ) (k : List ℕ) → writes_in ls u k ≡ true → holds_in ls u k ≡ true
written_held [] u k is = cc
written_held (l ∷ ls) u k is = elim (one_of (is_at l u k && l.writes) (writes_in ls u k) is) [
  | inl here ↦ or_first (is_at l u k) (holds_in ls u k) (both_of (is_at l u k) l.writes here).0
  | inr later ↦ or_later (is_at l u k) (holds_in ls u k) (written_held ls u k later)
]
