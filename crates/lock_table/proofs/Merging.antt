-- Which keys a table holds once another table has been merged into it.
use Prim.Native.Nat.{suc}
use Rattle.std.proofs.Common.{◌≡◌, ℕ, Bool, true, false, ◌&&◌, ◌||◌, List, [], ◌∷◌, refl, sym, ap, ◌∙◌, nat_eq, arith}
use Rattle.std.specs.declared.cmp.Ordering.{Ordering}
use Rattle.std.specs.declared.cmp.Ordering.TheVariants.{Less, Equal, Greater}
use Rattle.std.specs.Ordering.{match_ordering, is_eq, ordering_reverse}
use Rattle.std.proofs.lemmas.Bool.{eqb-true}
use Rattle.score_base.specs.Tables.{IsRising, put, merged}
use Rattle.score_base.proofs.TableMaps.{rising_rest}
use Rattle.lock_table.specs.Table.{is_at, holds_in, writes_in, lock_of, locks_of, by_key}
use Rattle.lock_table.proofs.Least.{or_later, or_first}
use Rattle.lock_table.proofs.Runs.{by_key_total, same_ties}
use Rattle.lock_table.proofs.Taking.{tied_key, absent_holds}

twice : (a b h : Bool) → a ≡ b → (a || h) ≡ (a || (b || h))
twice true b h same = refl
twice false b h same = ap (λ c. c || h) same

passed : (a b h n : Bool) → n ≡ (a || h) → (b || n) ≡ (a || (b || h))
passed true true h n is = refl
passed true false h n is = is
passed false b h n is = ap (λ c. b || c) is

or_nothing : (a : Bool) → a ≡ (a || false)
or_nothing true = refl
or_nothing false = refl

neither : (a b : Bool) → a ≡ false → b ≡ false → (a || b) ≡ false
neither true b is then = is
neither false b is then = then

-- locks on one key of one transaction
tied_locks : (p q : (List ℕ × ℕ) × Bool) (u : ℕ) (k : List ℕ) → by_key p.0 q.0 ≡ Equal
    → is_at (lock_of p) u k ≡ is_at (lock_of q) u k
tied_locks p q u k ties =
    sym (tied_key p u k)
    ∙ ap is_eq (by_key_total.antisymm (k, u) p.0 ∙ ap ordering_reverse (by_key_total.congr p.0 q.0 (k, u) ties)
    ∙ sym (by_key_total.antisymm (k, u) q.0))
    ∙ tied_key q u k

tied_here : (p q : (List ℕ × ℕ) × Bool) → by_key p.0 q.0 ≡ Equal → is_at (lock_of q) p.0.1 p.0.0 ≡ true
tied_here p q ties = sym (tied_key q p.0.1 p.0.0) ∙ ap is_eq ties

-- ---- one lock more

holds_by : (p q : (List ℕ × ℕ) × Bool) (qs next : List ((List ℕ × ℕ) × Bool)) (u : ℕ) (k : List ℕ) (r : Ordering)
    → by_key p.0 q.0 ≡ r
    → holds_in (locks_of next) u k ≡ (is_at (lock_of p) u k || holds_in (locks_of qs) u k)
    → holds_in (locks_of (match_ordering r (p ∷ q ∷ qs) (p ∷ qs) (q ∷ next))) u k
    ≡ (is_at (lock_of p) u k || holds_in (locks_of (q ∷ qs)) u k)
holds_by p q qs next u k Less is later = refl
holds_by p q qs next u k Equal is later =
    twice (is_at (lock_of p) u k) (is_at (lock_of q) u k) (holds_in (locks_of qs) u k) (tied_locks p q u k is)
holds_by p q qs next u k Greater is later =
    passed (is_at (lock_of p) u k) (is_at (lock_of q) u k) (holds_in (locks_of qs) u k) (holds_in (locks_of next) u k) later

holds_put : (p : (List ℕ × ℕ) × Bool) (ps : List ((List ℕ × ℕ) × Bool)) (u : ℕ) (k : List ℕ)
    → holds_in (locks_of (put by_key p ps)) u k ≡ (is_at (lock_of p) u k || holds_in (locks_of ps) u k)
unfolding put
holds_put p [] u k = refl
holds_put p (q ∷ qs) u k = holds_by p q qs (put by_key p qs) u k (by_key p.0 q.0) refl (holds_put p qs u k)

writes_by : (p q : (List ℕ × ℕ) × Bool) (qs next : List ((List ℕ × ℕ) × Bool)) (u : ℕ) (k : List ℕ) (r : Ordering)
    → by_key p.0 q.0 ≡ r → is_at (lock_of q) p.0.1 p.0.0 ≡ false
    → writes_in (locks_of next) u k ≡ ((is_at (lock_of p) u k && p.1) || writes_in (locks_of qs) u k)
    → writes_in (locks_of (match_ordering r (p ∷ q ∷ qs) (p ∷ qs) (q ∷ next))) u k
    ≡ ((is_at (lock_of p) u k && p.1) || writes_in (locks_of (q ∷ qs)) u k)
writes_by p q qs next u k Less is other later = refl
writes_by p q qs next u k Equal is other later =
    absurd (let bad : true ≡ false = sym (tied_here p q is) ∙ other in cc)
writes_by p q qs next u k Greater is other later =
    passed (is_at (lock_of p) u k && p.1) (is_at (lock_of q) u k && q.1) (writes_in (locks_of qs) u k) (writes_in (locks_of next) u k) later

first_not : (a b : Bool) → (a || b) ≡ false → a ≡ false
first_not true b is = is
first_not false b is = refl

rest_not : (a b : Bool) → (a || b) ≡ false → b ≡ false
rest_not true b is = cc
rest_not false b is = is

writes_put : (p : (List ℕ × ℕ) × Bool) (ps : List ((List ℕ × ℕ) × Bool)) (u : ℕ) (k : List ℕ)
    → holds_in (locks_of ps) p.0.1 p.0.0 ≡ false
    → writes_in (locks_of (put by_key p ps)) u k ≡ ((is_at (lock_of p) u k && p.1) || writes_in (locks_of ps) u k)
unfolding put
writes_put p [] u k free = refl
writes_put p (q ∷ qs) u k free =
    writes_by p q qs (put by_key p qs) u k (by_key p.0 q.0) refl
    (first_not (is_at (lock_of q) p.0.1 p.0.0) (holds_in (locks_of qs) p.0.1 p.0.0) free)
    (writes_put p qs u k (rest_not (is_at (lock_of q) p.0.1 p.0.0) (holds_in (locks_of qs) p.0.1 p.0.0) free))

-- ---- all locks of another table

pub holds_merged : (ps more : List ((List ℕ × ℕ) × Bool)) (u : ℕ) (k : List ℕ)
    → holds_in (locks_of (merged by_key ps more)) u k ≡ (holds_in (locks_of ps) u k || holds_in (locks_of more) u k)
unfolding merged
holds_merged ps [] u k = or_nothing (holds_in (locks_of ps) u k)
holds_merged ps (q ∷ qs) u k =
    holds_put q (merged by_key ps qs) u k
    ∙ passed (holds_in (locks_of ps) u k) (is_at (lock_of q) u k) (holds_in (locks_of qs) u k) _ (holds_merged ps qs u k)

-- where the table holds none of them
pub writes_merged : (ps more : List ((List ℕ × ℕ) × Bool)) → IsRising by_key more
    → ((u : ℕ) (k : List ℕ) → holds_in (locks_of more) u k ≡ true → holds_in (locks_of ps) u k ≡ false)
    → (u : ℕ) (k : List ℕ)
    → writes_in (locks_of (merged by_key ps more)) u k ≡ (writes_in (locks_of ps) u k || writes_in (locks_of more) u k)
unfolding merged
writes_merged ps [] rising free u k = or_nothing (writes_in (locks_of ps) u k)
writes_merged ps (q ∷ qs) rising free u k =
    let here : is_at (lock_of q) q.0.1 q.0.0 ≡ true = tied_here q q (same_ties by_key_total q.0) in
    let apart : holds_in (locks_of qs) q.0.1 q.0.0 ≡ false =
    absent_holds qs q.0.1 q.0.0 (λ j d within. ap is_eq (rising 0 (suc j) d (omega arith) (omega (arith, within)))) in
    let none : holds_in (locks_of ps) q.0.1 q.0.0 ≡ false =
    free q.0.1 q.0.0 (or_first (is_at (lock_of q) q.0.1 q.0.0) (holds_in (locks_of qs) q.0.1 q.0.0) here) in
    writes_put q (merged by_key ps qs) u k
    (holds_merged ps qs q.0.1 q.0.0 ∙ neither (holds_in (locks_of ps) q.0.1 q.0.0) (holds_in (locks_of qs) q.0.1 q.0.0) none apart)
    ∙ passed (writes_in (locks_of ps) u k) (is_at (lock_of q) u k && q.1) (writes_in (locks_of qs) u k) _
    (writes_merged ps qs (rising_rest by_key q qs rising)
    (λ v l held. free v l (or_later (is_at (lock_of q) v l) (holds_in (locks_of qs) v l) held)) u k)

-- ---- the keys of one transaction

this_one : (a b : Bool) → (a && b) ≡ true → a ≡ true
this_one true b is = refl
this_one false b is = is

-- a transaction that holds none of its keys yet
pub idle_free : (ps : List ((List ℕ × ℕ) × Bool)) (t : ℕ) (named : List ℕ → Bool) (u : ℕ) (k : List ℕ) (held : Bool)
    → ((l : List ℕ) → holds_in (locks_of ps) t l ≡ false) → held ≡ (nat_eq u t && named k) → held ≡ true
    → holds_in (locks_of ps) u k ≡ false
idle_free ps t named u k held idle is holds =
    let same : u ≡ t = eqb-true u t (this_one (nat_eq u t) (named k) (sym is ∙ holds)) in
    ap (λ v. holds_in (locks_of ps) v k) same ∙ idle k
