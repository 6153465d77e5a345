-- How a look-up narrows, what its steps cost, and that a table stays in rising order.
use Rattle.std.proofs.Common.{Bool, true, false, [], ◌∷◌, ◌≡◌, ℕ, suc, ◌+◌, ◌-◌, ◌*◌, ◌^◌, ◌<◌, ◌≤◌, List, length, sym, ap, ◌∙◌, subst, arith, inl, inr, lit<}
use Rattle.std.specs.List.{slice_index_or, insert, items_where_true}
use Rattle.std.proofs.lemmas.List.Elements.{All-cons}
use Rattle.std.specs.Cmp.{IsTotalOrder}
use Rattle.std.specs.declared.cmp.Ordering.{Ordering}
use Rattle.std.specs.declared.cmp.Ordering.TheVariants.{Less, Greater}
use Rattle.std.specs.Ordering.{ordering_reverse}
use Rattle.std.proofs.Math.Nat.{mul_assoc, mul-le-mul_left, pow-le-pow_right}
use Rattle.std.proofs.lemmas.Grind.{pow_more}
use Rattle.std.proofs.lemmas.Bool.{cases_lt}
use Rattle.std.specs.List.{AllPairs, All, remove}
use Rattle.std.specs.List.Retain.{IsFiltered}
use Rattle.std.proofs.lemmas.List.Quantifiers.{all_pairs_remove}
use Rattle.std.proofs.lemmas.List.Kept.{AllPairs-cons}
use Rattle.std.proofs.lemmas.List.Edits.{get_or-insert_at, get_or-insert_below, get_or-insert_above, length-insert}
use Rattle.score_base.specs.Tables.{IsRising, Narrows}

pub narrow_less : {K V : Type 0} {cmp : K → K → Ordering} (o : IsTotalOrder cmp) (pairs : List (K × V)) (key : K)
    (low high mid : ℕ) → IsRising cmp pairs → Narrows cmp pairs key low high → mid < high
    → ((d : K × V) → cmp (slice_index_or pairs mid d).0 key ≡ Less) → Narrows cmp pairs key (mid + 1) high
narrow_less {cmp = cmp} o pairs key low high mid rising n h here = record {
  order = omega arith;
  within = n.within;
  below = λ j d e. elim (cases_lt j mid) [
    | inl x ↦ o.trans _ _ _ (rising j mid d x (omega (arith, n.within))) (here d)
    | inr x ↦ let same : j ≡ mid = omega (arith, e, x) in subst (λ k. cmp (slice_index_or pairs k d).0 key ≡ Less) (sym same) (here d)
  ];
  above = n.above;
}

pub narrow_greater : {K V : Type 0} {cmp : K → K → Ordering} (o : IsTotalOrder cmp) (pairs : List (K × V)) (key : K)
    (low high mid : ℕ) → IsRising cmp pairs → Narrows cmp pairs key low high → low ≤ mid → mid < high
    → ((d : K × V) → cmp (slice_index_or pairs mid d).0 key ≡ Greater) → Narrows cmp pairs key low mid
narrow_greater {cmp = cmp} o pairs key low high mid rising n low_mid h here = record {
  order = low_mid;
  within = omega (arith, n.within);
  below = n.below;
  above = λ j d e long. elim (cases_lt mid j) [
    | inl x ↦ o.antisymm _ _ ∙ ap ordering_reverse (o.trans _ _ _ (o.antisymm _ _ ∙ ap ordering_reverse (here d)) (rising mid j d x long))
    | inr x ↦ let same : j ≡ mid = omega (arith, e, x) in subst (λ k. cmp (slice_index_or pairs k d).0 key ≡ Greater) (sym same) (here d)
  ];
}

-- one step more, over half of what was left
pub halved_more : (t m k n : ℕ) → 2 ^ t * m ≤ n → 2 * k ≤ m → 2 ^ (t + 1) * k ≤ n
halved_more t m k n h half =
    let more : 2 ^ (t + 1) * k ≡ 2 ^ t * (2 * k) = ap (λ p. p * k) (pow_more 2 t) ∙ mul_assoc (2 ^ t) 2 k in
    let less : 2 ^ t * (2 * k) ≤ 2 ^ t * m = mul-le-mul_left (2 ^ t) half in
    omega (arith, more, less, h)

pub cost_more : (t m n : ℕ) → 2 ^ t * m ≤ n → 0 < m → 2 ^ (t + 1) ≤ 2 * n + 1
cost_more t m n h some =
    let more : 2 ^ (t + 1) ≡ 2 ^ t * 2 = pow_more 2 t in
    let less : 2 ^ t * 1 ≤ 2 ^ t * m = mul-le-mul_left (2 ^ t) some in
    omega (arith, more, less, h)

pub few_steps : (t n : ℕ) → 2 ^ t ≤ 2 * n + 1 → n < 2 ^ 64 → t ≤ 66
few_steps t n cost small = elim (cases_lt 66 t) [
  | inl more ↦ let large : 2 ^ 67 ≤ 2 ^ t = pow-le-pow_right (lit< tt) more in absurd (omega (arith, large, cost, small))
  | inr few ↦ few
]

pub rising_insert : {K V : Type 0} {cmp : K → K → Ordering} (o : IsTotalOrder cmp) (pairs : List (K × V)) (key : K)
    (value : V) (i : ℕ) → IsRising cmp pairs → Narrows cmp pairs key i i → IsRising cmp (insert pairs i (key, value))
rising_insert {cmp = cmp} o pairs key value i rising n = λ a b d h long.
    let new = insert pairs i (key, value) in
    let size : b < length pairs + 1 = omega (arith, long, length-insert pairs i (key, value) n.within) in
    let below : (k : ℕ) → k < i → slice_index_or new k d ≡ slice_index_or pairs k d = λ k e. get_or-insert_below pairs i (key, value) d k e n.within in
    let at : slice_index_or new i d ≡ (key, value) = get_or-insert_at pairs i (key, value) d n.within in
    let above : (k : ℕ) → i < k → slice_index_or new k d ≡ slice_index_or pairs (k - 1) d = λ k e.
    let same : k ≡ (k - 1) + 1 = omega (arith, e) in
    ap (λ m. slice_index_or new m d) same ∙ get_or-insert_above pairs i (key, value) d (k - 1) (omega (arith, e)) n.within in
    elim (cases_lt b i) [
      | inl bl ↦ rw (below a (omega (arith, h, bl)), below b bl) (rising a b d h (omega (arith, bl, n.within)))
      | inr bh ↦ elim (cases_lt i b) [
        | inl more ↦ elim (cases_lt a i) [
          | inl al ↦ rw (below a al, above b more) (rising a (b - 1) d (omega (arith, al, more)) (omega (arith, size, more)))
          | inr ah ↦ elim (cases_lt i a) [
            | inl far ↦ rw (above a far, above b more) (rising (a - 1) (b - 1) d (omega (arith, h, far)) (omega (arith, size, more)))
            | inr same ↦
                let here : a ≡ i = omega (arith, ah, same) in
                let less : cmp key (slice_index_or pairs (b - 1) d).0 ≡ Less = o.antisymm _ _ ∙ ap ordering_reverse (n.above (b - 1) d (omega (arith, more)) (omega (arith, size, more))) in
                rw (here, at, above b more) less
          ]
        ]
        | inr same ↦
            let here : b ≡ i = omega (arith, bh, same) in
            rw (here, at, below a (omega (arith, h, here))) (n.below a d (omega (arith, h, here)))
      ]
    ]

-- a table without the pair at a place is in rising order
pub rising_remove : {K V : Type 0} (cmp : K → K → Ordering) (pairs : List (K × V)) (i : ℕ) → i < length pairs
    → IsRising cmp pairs → IsRising cmp (remove pairs i)
rising_remove cmp pairs i within rising = all_pairs_remove (λ p q. cmp p.0 q.0 ≡ Less) pairs i within rising

-- what holds of each element holds of those at which a test gave true
all_picked : {X : Type 0} (P : X → Type 0) (bs : List Bool) (xs : List X) → All P xs → All P (items_where_true bs xs)
all_picked P [] xs h = λ k d within. absurd (omega (arith, within))
all_picked P (b ∷ bs) [] h = λ k d within. absurd (omega (arith, within))
all_picked P (true ∷ bs) (x ∷ xs) h = All-cons P x (items_where_true bs xs) (h 0 x (omega arith)) (all_picked P bs xs (λ k d within. h (suc k) d (omega (arith, within))))
all_picked P (false ∷ bs) (x ∷ xs) h = all_picked P bs xs (λ k d within. h (suc k) d (omega (arith, within)))

-- of a list whose pairs stand so, the elements at which a test gave true stand so
pairs_picked : {X : Type 0} (R : X → X → Type 0) (bs : List Bool) (xs : List X) → AllPairs R xs
    → AllPairs R (items_where_true bs xs)
pairs_picked R [] xs h = λ i j d before within. absurd (omega (arith, within))
pairs_picked R (b ∷ bs) [] h = λ i j d before within. absurd (omega (arith, within))
pairs_picked R (true ∷ bs) (x ∷ xs) h = AllPairs-cons R x (items_where_true bs xs) (all_picked (R x) bs xs (λ k d within. h 0 (suc k) d (omega arith) (omega (arith, within)))) (pairs_picked R bs xs (λ i j d before within. h (suc i) (suc j) d (omega (arith, before)) (omega (arith, within))))
pairs_picked R (false ∷ bs) (x ∷ xs) h = pairs_picked R bs xs (λ i j d before within. h (suc i) (suc j) d (omega (arith, before)) (omega (arith, within)))

-- a table without the pairs that a test drops is in rising order
pub rising_retain : {K V P : Type 0} (cmp : K → K → Ordering) (R : P → K × V → Bool → P → Type 0) (f : P)
    (xs ys : List (K × V)) → IsFiltered R f xs ys → IsRising cmp xs → IsRising cmp ys
rising_retain cmp R f xs ys filtered rising = rw filtered.4 (pairs_picked (λ p q. cmp p.0 q.0 ≡ Less) filtered.0 xs rising)
