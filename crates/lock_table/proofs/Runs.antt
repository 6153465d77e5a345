-- The locks on one key stand side by side, in the order of their transactions.
use Prim.Native.Nat.{zero, suc}
use Rattle.std.proofs.Common.{◌≡◌, ◌≢◌, ℕ, ◌+◌, ◌<◌, ◌≤◌, Bool, true, false, ◌&&◌, ◌||◌, List, [], ◌∷◌, Some, None, inl, inr, length, drop, refl, sym, ap, ◌∙◌, subst, nat_eq, arith}
use Rattle.std.specs.List.{slice_index_or, All}
use Rattle.std.specs.Cmp.{IsTotalOrder, then_total, on_total, nat_cmp_total}
use Rattle.std.specs.Cmp.Lexicographic.{pointwise, slice_cmp, nat_list_cmp_total, texts_ties}
use Rattle.std.specs.declared.cmp.Ordering.{Ordering}
use Rattle.std.specs.declared.cmp.Ordering.TheVariants.{Less, Equal, Greater}
use Rattle.std.specs.Ordering.{nat_cmp, is_eq, ordering_then, ordering_reverse}
use Rattle.std.proofs.lemmas.List.{drop_more, drop_all}
use Rattle.std.proofs.lemmas.Bool.{cases_lt, eqb-true}
use Rattle.std.proofs.lemmas.Bool.Decides.{nat_tests}
use Rattle.score_base.specs.Tables.{IsRising, IsGap}
use Rattle.score_base.proofs.TableMerge.{less_tied}
use Rattle.lock_table.specs.Table.{is_at, holds_in, blocks_in, lock_of, locks_of, by_key, AreNumbered, IsStart, IsLeastOther}
use Rattle.lock_table.proofs.Least.{one_of, both_of, or_first, same_key}
use Rattle.lock_table.proofs.Places.{and_true, written_held}

pub by_key_total : IsTotalOrder by_key
by_key_total = then_total (on_total (λ p. p.0) nat_list_cmp_total) (on_total (λ p. p.1) nat_cmp_total)

-- ---- where the locks on a key begin

less_then : (a b : Ordering) → b ≢ Less → ordering_then a b ≡ Less → a ≡ Less
less_then Less b not_less is = refl
less_then Equal b not_less is = absurd (not_less is)
less_then Greater b not_less is = cc

then_less : (a b : Ordering) → a ≡ Less → ordering_then a b ≡ Less
then_less a b is = ap (λ r. ordering_then r b) is

not_below_one : (u : ℕ) → 1 ≤ u → nat_cmp u 1 ≢ Less
not_below_one u h = λ is. grind (arith, h, is)

start_from : (ps : List ((List ℕ × ℕ) × Bool)) (k : List ℕ) (i : ℕ) → AreNumbered ps → i ≤ length ps
    → ((j : ℕ) (d : (List ℕ × ℕ) × Bool) → j < i → by_key (slice_index_or ps j d).0 (k, 1) ≡ Less)
    → ((j : ℕ) (d : (List ℕ × ℕ) × Bool) → i ≤ j → j < length ps → by_key (slice_index_or ps j d).0 (k, 1) ≢ Less)
    → IsStart ps k i
start_from ps k i numbered within below above = record {
  within = within;
  below = λ j d before. less_then _ _ (not_below_one _ (numbered j d (omega (arith, before, within))))
      (below j d before);
  above = λ j d from inside is. above j d from inside (then_less _ _ is);
}

greater_not_less : (r : Ordering) → r ≡ Greater → r ≢ Less
greater_not_less r is = λ less. cc

equal_not_less : (r : Ordering) → r ≡ Equal → r ≢ Less
equal_not_less r is = λ less. cc

pub start_at_gap : (ps : List ((List ℕ × ℕ) × Bool)) (k : List ℕ) (i : ℕ) → AreNumbered ps → IsGap by_key ps (k, 1) i
    → IsStart ps k i
start_at_gap ps k i numbered gap =
    start_from ps k i numbered gap.within gap.below
    (λ j d from inside. greater_not_less _ (gap.above j d from inside))

module _ {K : Type 0} {cmp : K → K → Ordering} (o : IsTotalOrder cmp) where
  more_tied : (x y z : K) → cmp y x ≡ Less → cmp y z ≡ Equal → cmp x z ≡ Greater
  more_tied x y z less ties = o.antisymm x z ∙ ap ordering_reverse (sym (o.congr y z x ties) ∙ less)

  pub same_ties : (x : K) → cmp x x ≡ Equal
  same_ties x = reversed (cmp x x) (o.antisymm x x)
    where
      reversed : (r : Ordering) → r ≡ ordering_reverse r → r ≡ Equal
      reversed Less is = cc
      reversed Equal is = refl
      reversed Greater is = cc

pub start_at_place : (ps : List ((List ℕ × ℕ) × Bool)) (k : List ℕ) (i : ℕ) → AreNumbered ps → IsRising by_key ps
    → i < length ps
    → ((d : (List ℕ × ℕ) × Bool) → by_key (slice_index_or ps i d).0 (k, 1) ≡ Equal) → IsStart ps k i
start_at_place ps k i numbered rising within here =
    start_from ps k i numbered (omega (arith, within))
    (λ j d before. less_tied by_key_total (slice_index_or ps j d).0 (slice_index_or ps i d).0 (k, 1)
    (rising j i d before within) (here d))
    (λ j d from inside. elim (cases_lt i j) [
      | inl more ↦ greater_not_less _
          (more_tied by_key_total (slice_index_or ps j d).0 (slice_index_or ps i d).0 (k, 1)
          (rising i j d more inside) (here d))
      | inr same ↦ let at : j ≡ i = omega (arith, from, same) in rw at (equal_not_less _ (here d))
    ])

-- ---- along the locks on a key

blocks_more : (writes : Bool) (p : (List ℕ × ℕ) × Bool) (ps : List ((List ℕ × ℕ) × Bool)) (u : ℕ) (k : List ℕ)
    → blocks_in writes (locks_of (p ∷ ps)) u k
    ≡ ((is_at (lock_of p) u k && (writes || p.1)) || blocks_in writes (locks_of ps) u k)
blocks_more true p ps u k = ap (λ b. b || holds_in (locks_of ps) u k) (and_true (is_at (lock_of p) u k))
blocks_more false p ps u k = refl

not_both : (a b : Bool) → b ≡ false → (a && b) ≡ false
not_both true b is = is
not_both false b is = refl

not_first : (a b : Bool) → a ≡ false → (a && b) ≡ false
not_first a b is = ap (λ x. x && b) is

-- the locks before those on the key
pub blocks_from : (writes : Bool) (ps : List ((List ℕ × ℕ) × Bool)) (i u : ℕ) (k : List ℕ) → i ≤ length ps
    → ((j : ℕ) (d : (List ℕ × ℕ) × Bool) → j < i → slice_cmp nat_cmp (slice_index_or ps j d).0.0 k ≡ Less)
    → blocks_in writes (locks_of (drop i ps)) u k ≡ blocks_in writes (locks_of ps) u k
blocks_from writes ps zero u k within below = refl
blocks_from writes [] (suc i) u k within below = absurd (omega (arith, within))
blocks_from writes (p ∷ ps) (suc i) u k within below =
    let off : is_at (lock_of p) u k ≡ false = not_both (nat_eq u p.0.1) (pointwise nat_eq p.0.0 k)
    (texts_ties p.0.0 k ∙ ap is_eq (below 0 p (omega arith))) in
    blocks_from writes ps i u k (omega (arith, within)) (λ j d before. below (suc j) d (omega (arith, before)))
    ∙ sym (blocks_more writes p ps u k ∙ ap (λ b. b || blocks_in writes (locks_of ps) u k)
    (not_first (is_at (lock_of p) u k) (writes || p.1) off))

-- a lock on the key that does not block
pub blocks_next : (writes : Bool) (ps : List ((List ℕ × ℕ) × Bool)) (i : ℕ) (p : (List ℕ × ℕ) × Bool) (u : ℕ)
    (k : List ℕ)
    → i < length ps → p ≡ slice_index_or ps i p → (is_at (lock_of p) u k && (writes || p.1)) ≡ false
    → blocks_in writes (locks_of (drop (i + 1) ps)) u k ≡ blocks_in writes (locks_of (drop i ps)) u k
blocks_next writes ps i p u k within read off =
    sym (ap (λ qs. blocks_in writes (locks_of qs) u k)
    (drop_more ps i p within ∙ ap (λ q. q ∷ drop (i + 1) ps) (sym read))
    ∙ blocks_more writes p (drop (i + 1) ps) u k
    ∙ ap (λ b. b || blocks_in writes (locks_of (drop (i + 1) ps)) u k) off)

pub blocks_holds : (writes : Bool) (ps : List ((List ℕ × ℕ) × Bool)) (u : ℕ) (k : List ℕ)
    → blocks_in writes (locks_of ps) u k ≡ true → holds_in (locks_of ps) u k ≡ true
blocks_holds true ps u k is = is
blocks_holds false ps u k is = written_held (locks_of ps) u k is

rising_behind : (ps : List ((List ℕ × ℕ) × Bool)) (i : ℕ) (d : (List ℕ × ℕ) × Bool) → IsRising by_key ps → i < length ps
    → All (λ q. by_key (slice_index_or ps i d).0 q.0 ≡ Less) (drop (suc i) ps)
rising_behind [] i d rising within = absurd (omega (arith, within))
rising_behind (p ∷ ps) zero d rising within = λ j e inside. rising 0 (suc j) e (omega arith) (omega (arith, inside))
rising_behind (p ∷ ps) (suc i) d rising within =
    rising_behind ps i d (λ a b e before inside. rising (suc a) (suc b) e (omega (arith, before))
    (omega (arith, inside))) (omega (arith, within))

named_at : (p : (List ℕ × ℕ) × Bool) (u : ℕ) (k : List ℕ) → is_at (lock_of p) u k ≡ true → p.0 ≡ (k, u)
named_at p u k at =
    let h = both_of (nat_eq u p.0.1) (pointwise nat_eq p.0.0 k) at in
    ap (λ q. (q, p.0.1)) (same_key p.0.0 k h.1) ∙ ap (λ v. (k, v)) (sym (eqb-true u p.0.1 h.0))

-- who holds a key behind a lock stands above that lock
behind_above : (rest : List ((List ℕ × ℕ) × Bool)) (x : List ℕ × ℕ) (v : ℕ) (k : List ℕ)
    → All (λ q. by_key x q.0 ≡ Less) rest → holds_in (locks_of rest) v k ≡ true → by_key x (k, v) ≡ Less
behind_above [] x v k above held = cc
behind_above (q ∷ rest) x v k above held = elim (one_of (is_at (lock_of q) v k) (holds_in (locks_of rest) v k) held) [
  | inl at ↦ ap (by_key x) (sym (named_at q v k at)) ∙ above 0 q (omega arith)
  | inr later ↦ behind_above rest x v k (λ j d within. above (suc j) d (omega (arith, within))) later
]

less_number : (a b : ℕ) → nat_cmp a b ≡ Less → a < b
less_number a b is = grind (arith, is)

-- the first lock on a key is that of its least transaction
least_first : (p : (List ℕ × ℕ) × Bool) (rest : List ((List ℕ × ℕ) × Bool)) (v : ℕ) (k : List ℕ)
    → All (λ q. by_key p.0 q.0 ≡ Less) rest → pointwise nat_eq p.0.0 k ≡ true
    → holds_in (locks_of (p ∷ rest)) v k ≡ true → p.0.1 ≤ v
least_first p rest v k above here held = elim (one_of (is_at (lock_of p) v k) (holds_in (locks_of rest) v k) held) [
  | inl at ↦ let same : p.0.1 ≡ v = ap (λ q. q.1) (named_at p v k at) in omega (arith, same)
  | inr later ↦
      let ties : slice_cmp nat_cmp p.0.0 k ≡ Equal = ap (λ q. slice_cmp nat_cmp q k) (same_key p.0.0 k here)
      ∙ same_ties nat_list_cmp_total k in
      let less = less_number p.0.1 v
      (sym (ap (λ r. ordering_then r (nat_cmp p.0.1 v)) ties) ∙ behind_above rest p.0 v k above later) in
      omega (arith, less)
]

not_less_then : (a b : Ordering) → a ≢ Less → is_eq a ≡ false → ordering_then a b ≡ Less → ⊥
not_less_then Less b not_less apart is = not_less refl
not_less_then Equal b not_less apart is = cc
not_less_then Greater b not_less apart is = cc

-- behind a lock on a greater key the key is not held
none_behind : (p : (List ℕ × ℕ) × Bool) (rest : List ((List ℕ × ℕ) × Bool)) (v : ℕ) (k : List ℕ)
    → All (λ q. by_key p.0 q.0 ≡ Less) rest → slice_cmp nat_cmp p.0.0 k ≢ Less → pointwise nat_eq p.0.0 k ≡ false
    → holds_in (locks_of (p ∷ rest)) v k ≡ true → ⊥
none_behind p rest v k above from apart held = elim (one_of (is_at (lock_of p) v k) (holds_in (locks_of rest) v k) held) [
  | inl at ↦ let here : pointwise nat_eq p.0.0 k ≡ true =
      (both_of (nat_eq v p.0.1) (pointwise nat_eq p.0.0 k) at).1 in cc
  | inr later ↦ not_less_then (slice_cmp nat_cmp p.0.0 k) (nat_cmp p.0.1 v) from (sym (texts_ties p.0.0 k) ∙ apart)
      (behind_above rest p.0 v k above later)
]

-- what is left from a place on
at_place : (ps : List ((List ℕ × ℕ) × Bool)) (i : ℕ) (p : (List ℕ × ℕ) × Bool) → i < length ps
    → p ≡ slice_index_or ps i p → drop i ps ≡ p ∷ drop (i + 1) ps
at_place ps i p within read = drop_more ps i p within ∙ ap (λ q. q ∷ drop (i + 1) ps) (sym read)

above_place : (ps : List ((List ℕ × ℕ) × Bool)) (i : ℕ) (p : (List ℕ × ℕ) × Bool) → IsRising by_key ps → i < length ps
    → p ≡ slice_index_or ps i p
    → All (λ q. by_key p.0 q.0 ≡ Less) (drop (i + 1) ps)
above_place ps i p rising within read =
    let next : i + 1 ≡ suc i = omega arith in
    rw next (subst (λ (x : (List ℕ × ℕ) × Bool). All (λ q. by_key x.0 q.0 ≡ Less) (drop (suc i) ps)) (sym read)
    (rising_behind ps i p rising within))

-- ---- what the walk along a key ends with

pub first_blocks : (writes : Bool) (ps : List ((List ℕ × ℕ) × Bool)) (i : ℕ) (p : (List ℕ × ℕ) × Bool) (t : ℕ)
    (k : List ℕ)
    → IsRising by_key ps → i < length ps → p ≡ slice_index_or ps i p → pointwise nat_eq p.0.0 k ≡ true → p.0.1 ≢ t →
    (writes || p.1) ≡ true
    → ((u : ℕ) → u ≢ t → blocks_in writes (locks_of (drop i ps)) u k ≡ blocks_in writes (locks_of ps) u k)
    → IsLeastOther (λ u. blocks_in writes (locks_of ps) u k) t (Some p.0.1)
first_blocks writes ps i p t k rising within read here other blocks left =
    let place = at_place ps i p within read in
    let at : is_at (lock_of p) p.0.1 k ≡ true = rw here (grind (arith, nat_tests)) in
    record {
      other = other;
      passes = sym (left p.0.1 other) ∙ ap (λ qs. blocks_in writes (locks_of qs) p.0.1 k) place
          ∙ blocks_more writes p (drop (i + 1) ps) p.0.1 k
          ∙ or_first _ (blocks_in writes (locks_of (drop (i + 1) ps)) p.0.1 k)
          (ap (λ b. b && (writes || p.1)) at ∙ blocks);
      least = λ v apart passes.
          least_first p (drop (i + 1) ps) v k (above_place ps i p rising within read) here
          (ap (λ qs. holds_in (locks_of qs) v k) (sym place) ∙ blocks_holds writes (drop i ps) v k
          (left v apart ∙ passes));
    }

pub past_key : (writes : Bool) (ps : List ((List ℕ × ℕ) × Bool)) (i : ℕ) (p : (List ℕ × ℕ) × Bool) (t : ℕ) (k : List ℕ)
    → IsRising by_key ps → i < length ps → p ≡ slice_index_or ps i p → slice_cmp nat_cmp
    (slice_index_or ps i p).0.0 k ≢ Less → pointwise nat_eq p.0.0 k ≡ false
    → ((u : ℕ) → u ≢ t → blocks_in writes (locks_of (drop i ps)) u k ≡ blocks_in writes (locks_of ps) u k)
    → IsLeastOther (λ u. blocks_in writes (locks_of ps) u k) t None
past_key writes ps i p t k rising within read from apart left = λ u other passes.
    none_behind p (drop (i + 1) ps) u k (above_place ps i p rising within read)
    (subst (λ (x : (List ℕ × ℕ) × Bool). slice_cmp nat_cmp x.0.0 k ≢ Less) (sym read) from) apart
    (ap (λ qs. holds_in (locks_of qs) u k) (sym (at_place ps i p within read)) ∙ blocks_holds writes (drop i ps) u k
    (left u other ∙ passes))

none_blocks : (writes : Bool) (u : ℕ) (k : List ℕ) → blocks_in writes (locks_of []) u k ≡ false
none_blocks true u k = refl
none_blocks false u k = refl

pub past_all : (writes : Bool) (ps : List ((List ℕ × ℕ) × Bool)) (i t : ℕ) (k : List ℕ) → length ps ≤ i
    → ((u : ℕ) → u ≢ t → blocks_in writes (locks_of (drop i ps)) u k ≡ blocks_in writes (locks_of ps) u k)
    → IsLeastOther (λ u. blocks_in writes (locks_of ps) u k) t None
past_all writes ps i t k all left = λ u other passes.
    let bad : false ≡ true = sym
    (ap (λ qs. blocks_in writes (locks_of qs) u k) (drop_all i ps all) ∙ none_blocks writes u k) ∙ left u other
    ∙ passes in
    cc
