-- What the list of locks holds once a transaction has taken a key, whether or not it held it.
use Prim.Native.Nat.{zero, suc}
use Rattle.std.proofs.Common.{◌≡◌, ℕ, ◌<◌, Bool, true, false, not, ◌&&◌, ◌||◌, List, [], ◌∷◌, IsTrue, length, refl, sym, ap, ◌∙◌, nat_eq, arith}
use Rattle.std.specs.Cmp.{unsigned_tied, both_tied}
use Rattle.std.specs.Cmp.Lexicographic.{pointwise, slice_cmp, nat_list_eq_equiv, texts_ties}
use Rattle.std.specs.declared.cmp.Ordering.TheVariants.{Equal}
use Rattle.std.specs.Ordering.{nat_cmp, eq_by_cmp, is_eq, ordering_reverse}
use Rattle.std.specs.List.{slice_index_or}
use Rattle.std.proofs.lemmas.Bool.{eqb-true}
use Rattle.score_base.specs.Tables.{IsGap}
use Rattle.score_base.proofs.TableMaps.{IsAbsent, gap_absent}
use Rattle.lock_table.specs.Table.{Lock, is_at, holds_in, writes_in, lock_of, locks_of, by_key}
use Rattle.lock_table.proofs.Least.{both_of, or_later, or_first, same_key}
use Rattle.lock_table.proofs.Runs.{by_key_total}

swapped : (a b : Bool) → (a && b) ≡ (b && a)
swapped true true = refl
swapped true false = refl
swapped false true = refl
swapped false false = refl

pub tied_key : (p : (List ℕ × ℕ) × Bool) (u : ℕ) (k : List ℕ) → eq_by_cmp by_key (k, u) p.0 ≡ is_at (lock_of p) u k
tied_key p u k =
    sym (both_tied _ _ (slice_cmp nat_cmp k p.0.0) (nat_cmp u p.0.1) (nat_list_eq_equiv.symm p.0.0 k ∙ texts_ties k p.0.0) (sym (unsigned_tied u p.0.1)))
    ∙ swapped (pointwise nat_eq p.0.0 k) (nat_eq u p.0.1)

pub absent_holds : (ps : List ((List ℕ × ℕ) × Bool)) (u : ℕ) (k : List ℕ) → IsAbsent by_key ps (k, u)
    → holds_in (locks_of ps) u k ≡ false
absent_holds [] u k none = refl
absent_holds (p ∷ ps) u k none =
    ap (λ b. b || holds_in (locks_of ps) u k) (sym (tied_key p u k) ∙ none 0 p (omega arith))
    ∙ absent_holds ps u k (λ j d within. none (suc j) d (omega (arith, within)))

-- where the table has a gap for it, the key is not held
pub gap_holds : (ps : List ((List ℕ × ℕ) × Bool)) (i u : ℕ) (k : List ℕ) → IsGap by_key ps (k, u) i
    → holds_in (locks_of ps) u k ≡ false
gap_holds ps i u k gap = absent_holds ps u k (gap_absent by_key_total ps (k, u) i gap)

-- where the table has it, the key is held
pub found_holds : (ps : List ((List ℕ × ℕ) × Bool)) (i : ℕ) (d : (List ℕ × ℕ) × Bool) (u : ℕ) (k : List ℕ)
    → i < length ps → by_key (slice_index_or ps i d).0 (k, u) ≡ Equal → holds_in (locks_of ps) u k ≡ true
found_holds [] i d u k within ties = absurd (omega (arith, within))
found_holds (p ∷ ps) zero d u k within ties =
    or_first (is_at (lock_of p) u k) (holds_in (locks_of ps) u k)
    (sym (tied_key p u k) ∙ ap is_eq (by_key_total.antisymm (k, u) p.0 ∙ ap ordering_reverse ties))
found_holds (p ∷ ps) (suc i) d u k within ties =
    or_later (is_at (lock_of p) u k) (holds_in (locks_of ps) u k) (found_holds ps i d u k (omega (arith, within)) ties)

-- what holds of a transaction and a key holds wherever they are named
named : (f : ℕ → List ℕ → Bool) (t : ℕ) (key : List ℕ) (u : ℕ) (k : List ℕ)
    → (nat_eq u t && pointwise nat_eq key k) ≡ true → f u k ≡ f t key
named f t key u k is =
    let h = both_of (nat_eq u t) (pointwise nat_eq key k) is in
    ap (λ v. f v k) (eqb-true u t h.0) ∙ ap (f t) (sym (same_key key k h.1))

already : (h x : Bool) → (x ≡ true → h ≡ true) → h ≡ (h || x)
already true x here = refl
already false true here = here refl
already false false here = refl

-- a key that is held already
pub held_already : (ls : List Lock) (t : ℕ) (key : List ℕ) (u : ℕ) (k : List ℕ) → holds_in ls t key ≡ true
    → holds_in ls u k ≡ (holds_in ls u k || (nat_eq u t && pointwise nat_eq key k))
held_already ls t key u k held = already (holds_in ls u k) (nat_eq u t && pointwise nat_eq key k) (λ is. named (holds_in ls) t key u k is ∙ held)

no_more : (w h x y : Bool) → h ≡ true → w ≡ (w || ((x && not h) && y))
no_more w false x y is = cc
no_more true true x y is = refl
no_more false true true y is = refl
no_more false true false y is = refl

-- is not written where it is held already
pub written_already : (ls : List Lock) (t : ℕ) (key : List ℕ) (x : Bool) (u : ℕ) (k : List ℕ) → holds_in ls t key ≡ true
    → writes_in ls u k
    ≡ (writes_in ls u k || ((x && not (holds_in ls t key)) && (nat_eq u t && pointwise nat_eq key k)))
written_already ls t key x u k held = no_more (writes_in ls u k) (holds_in ls t key) x (nat_eq u t && pointwise nat_eq key k) held

one_more : (w h x y : Bool) → h ≡ false → (w || (y && x)) ≡ (w || ((x && not h) && y))
one_more w true x y is = cc
one_more w false true true is = refl
one_more w false true false is = refl
one_more w false false true is = refl
one_more w false false false is = refl

-- is written where it was not held
pub written_anew : (ls : List Lock) (t : ℕ) (key : List ℕ) (x : Bool) (u : ℕ) (k : List ℕ) → holds_in ls t key ≡ false
    → (writes_in ls u k || ((nat_eq u t && pointwise nat_eq key k) && x))
    ≡ (writes_in ls u k || ((x && not (holds_in ls t key)) && (nat_eq u t && pointwise nat_eq key k)))
written_anew ls t key x u k free = one_more (writes_in ls u k) (holds_in ls t key) x (nat_eq u t && pointwise nat_eq key k) free

all_there : (w h y : Bool) → (y ≡ true → h ≡ w) → (w || ((true && not h) && y)) ≡ (w || y)
all_there true h y is = refl
all_there false true true is = sym (is refl)
all_there false true false is = refl
all_there false false true is = refl
all_there false false false is = refl

-- where t writes all that it holds, a key that it takes to write is written
pub written_too : (ls : List Lock) (t : ℕ) (key : List ℕ) (u : ℕ) (k : List ℕ)
    → ((q : List ℕ) → holds_in ls t q ≡ writes_in ls t q)
    → (writes_in ls u k || ((true && not (holds_in ls t key)) && (nat_eq u t && pointwise nat_eq key k)))
    ≡ (writes_in ls u k || (nat_eq u t && pointwise nat_eq key k))
written_too ls t key u k idle =
    all_there (writes_in ls u k) (holds_in ls t key) (nat_eq u t && pointwise nat_eq key k) (λ is. idle key ∙ sym (named (writes_in ls) t key u k is))

-- the first of what is left, and the rest
pub one_then_rest : (h a p r : Bool) → ((h || (a && p)) || (a && r)) ≡ (h || (a && (p || r)))
one_then_rest true a p r = refl
one_then_rest false true p r = refl
one_then_rest false false p r = refl

-- the writes, then the reads
pub writes_then_reads : (h a r w : Bool) → ((h || (a && w)) || (a && r)) ≡ (h || (a && (r || w)))
writes_then_reads true a r w = refl
writes_then_reads false false r w = refl
writes_then_reads false true true true = refl
writes_then_reads false true true false = refl
writes_then_reads false true false true = refl
writes_then_reads false true false false = refl

not_written : (a b h w : Bool) → (h ≡ false → w ≡ false) → (a || h) ≡ false → ((a && b) || w) ≡ false
not_written true b h w later none = cc
not_written false b h w later none = later none

writes_holds : (ls : List Lock) (u : ℕ) (k : List ℕ) → holds_in ls u k ≡ false → writes_in ls u k ≡ false
writes_holds [] u k none = refl
writes_holds (l ∷ ls) u k none = not_written (is_at l u k) l.writes (holds_in ls u k) (writes_in ls u k) (λ later. writes_holds ls u k later) none

pub not_held : (b : Bool) → ¬ IsTrue b → b ≡ false
not_held true idle = absurd (idle refl)
not_held false idle = refl

-- who holds no key writes all that it holds
pub none_is_idle : (ls : List Lock) (u : ℕ) (k : List ℕ) → ¬ IsTrue (holds_in ls u k)
    → holds_in ls u k ≡ writes_in ls u k
none_is_idle ls u k idle = let free = not_held (holds_in ls u k) idle in free ∙ sym (writes_holds ls u k free)
