-- What a merge of two tables makes, seen from its end, and that it is in rising order.
use Prim.Native.Nat.{zero, suc}
use Rattle.std.proofs.Common.{◌≡◌, ℕ, ◌+◌, ◌<◌, ◌≤◌, List, [], ◌∷◌, ◌++◌, ◌-◌, length, take, drop, refl, sym, ap, ◌∙◌, append_assoc, arith}
use Rattle.std.specs.Cmp.{IsTotalOrder}
use Rattle.std.specs.declared.cmp.Ordering.{Ordering}
use Rattle.std.specs.declared.cmp.Ordering.TheVariants.{Less, Equal, Greater}
use Rattle.std.specs.Ordering.{match_ordering, ordering_reverse}
use Rattle.std.specs.List.{All, slice_index_or}
use Rattle.std.proofs.lemmas.List.Elements.{All-cons}
use Rattle.std.proofs.lemmas.List.Kept.{AllPairs-cons}
use Rattle.std.proofs.lemmas.List.{get_or_default, get_or-take, length-take-le, get_or-drop, length-drop, take_more, take-take, take-append-drop, drop-take, drop_more}
use Rattle.score_base.specs.Tables.{IsRising, Narrows, put, merged}
use Rattle.score_base.proofs.TableMaps.{rising_rest}

-- all but the first
all_rest : {X : Type 0} (P : X → Type 0) (x : X) (xs : List X) → All P (x ∷ xs) → All P xs
all_rest P x xs all = λ i d within. all (suc i) d (omega (arith, within))

all_first : {X : Type 0} (P : X → Type 0) (x : X) (xs : List X) → All P (x ∷ xs) → P x
all_first P x xs all = all 0 x (omega arith)

rising_first : {K V : Type 0} (cmp : K → K → Ordering) (p : K × V) (ps : List (K × V))
    → IsRising cmp (p ∷ ps) → All (λ q. cmp p.0 q.0 ≡ Less) ps
rising_first cmp p ps rising = λ j d within. rising 0 (suc j) d (omega arith) (omega (arith, within))

-- ---- what holds of all pairs

all_by : {X : Type 0} (P : X → Type 0) (r : Ordering) (xs ys zs : List X)
    → All P xs → All P ys → All P zs → All P (match_ordering r xs ys zs)
all_by P Less xs ys zs a b c = a
all_by P Equal xs ys zs a b c = b
all_by P Greater xs ys zs a b c = c

all_put : {K V : Type 0} (cmp : K → K → Ordering) (P : K × V → Type 0) (p : K × V) (qs : List (K × V))
    → P p → All P qs → All P (put cmp p qs)
unfolding put
all_put cmp P p [] here all = All-cons P p [] here all
all_put cmp P p (q ∷ qs) here all =
    all_by P (cmp p.0 q.0) _ _ _
    (All-cons P p (q ∷ qs) here all)
    (All-cons P p qs here (all_rest P q qs all))
    (All-cons P q (put cmp p qs) (all_first P q qs all) (all_put cmp P p qs here (all_rest P q qs all)))

-- what holds of the pairs of both tables holds of those of the merged one
pub all_merged : {K V : Type 0} (cmp : K → K → Ordering) (P : K × V → Type 0) (pairs more : List (K × V))
    → All P pairs → All P more → All P (merged cmp pairs more)
unfolding merged
all_merged cmp P pairs [] old new = old
all_merged cmp P pairs (p ∷ ps) old new =
    all_put cmp P p (merged cmp pairs ps) (all_first P p ps new) (all_merged cmp P pairs ps old (all_rest P p ps new))

-- ---- the order

with_behind : {X : Type 0} (r : Ordering) (a b c d behind : List X) → d ≡ c ++ behind
    → match_ordering r (a ++ behind) (b ++ behind) d ≡ match_ordering r a b c ++ behind
with_behind Less a b c d behind same = refl
with_behind Equal a b c d behind same = refl
with_behind Greater a b c d behind same = same

module _ {K : Type 0} {cmp : K → K → Ordering} (o : IsTotalOrder cmp) where
  turned : (x y : K) (r : Ordering) → cmp x y ≡ r → cmp y x ≡ ordering_reverse r
  turned x y r is = o.antisymm y x ∙ ap ordering_reverse is

  pub less_tied : (x y z : K) → cmp x y ≡ Less → cmp y z ≡ Equal → cmp x z ≡ Less
  less_tied x y z less ties = turned z x Greater (sym (o.congr y z x ties) ∙ turned x y Less less)

module _ {K V : Type 0} {cmp : K → K → Ordering} (o : IsTotalOrder cmp) where
  below_all : (p q : K × V) (qs : List (K × V)) → cmp p.0 q.0 ≡ Less → All (λ z. cmp q.0 z.0 ≡ Less) qs
      → All (λ z. cmp p.0 z.0 ≡ Less) qs
  below_all p q qs less all = λ j d within. o.trans _ _ _ less (all j d within)

  tied_all : (p q : K × V) (qs : List (K × V)) → cmp p.0 q.0 ≡ Equal → All (λ z. cmp q.0 z.0 ≡ Less) qs
      → All (λ z. cmp p.0 z.0 ≡ Less) qs
  tied_all p q qs ties all = λ j d within. o.congr p.0 q.0 _ ties ∙ all j d within

  rising_by : (p q : K × V) (qs next : List (K × V)) (r : Ordering) → cmp p.0 q.0 ≡ r → IsRising cmp (q ∷ qs)
      → All (λ z. cmp q.0 z.0 ≡ Less) qs
      → IsRising cmp next → (cmp q.0 p.0 ≡ Less → All (λ z. cmp q.0 z.0 ≡ Less) next)
      → IsRising cmp (match_ordering r (p ∷ q ∷ qs) (p ∷ qs) (q ∷ next))
  rising_by p q qs next Less is rising first later above =
      AllPairs-cons (λ x y. cmp x.0 y.0 ≡ Less) p (q ∷ qs)
      (All-cons (λ z. cmp p.0 z.0 ≡ Less) q qs is (below_all p q qs is first)) rising
  rising_by p q qs next Equal is rising first later above =
      AllPairs-cons (λ x y. cmp x.0 y.0 ≡ Less) p qs (tied_all p q qs is first) (rising_rest cmp q qs rising)
  rising_by p q qs next Greater is rising first later above =
      AllPairs-cons (λ x y. cmp x.0 y.0 ≡ Less) q next (above (turned o p.0 q.0 Greater is)) later

  rising_put : (p : K × V) (qs : List (K × V)) → IsRising cmp qs → IsRising cmp (put cmp p qs)
  unfolding put
  rising_put p [] rising = λ i j d before within. absurd (omega (arith, before, within))
  rising_put p (q ∷ qs) rising =
      let first = rising_first cmp q qs rising in
      rising_by p q qs (put cmp p qs) (cmp p.0 q.0) refl rising first
      (rising_put p qs (rising_rest cmp q qs rising))
      (λ less. all_put cmp (λ z. cmp q.0 z.0 ≡ Less) p qs less first)

  pub rising_merged : (pairs more : List (K × V)) → IsRising cmp pairs → IsRising cmp (merged cmp pairs more)
  unfolding merged
  rising_merged pairs [] rising = rising
  rising_merged pairs (p ∷ ps) rising = rising_put p (merged cmp pairs ps) (rising_merged pairs ps rising)

  -- ---- from the end

  -- a key below that of a pair is put before it
  put_before : (p : K × V) (qs : List (K × V)) (x : K × V) (behind : List (K × V)) → cmp p.0 x.0 ≡ Less
      → put cmp p (qs ++ (x ∷ behind)) ≡ put cmp p qs ++ (x ∷ behind)
  unfolding put
  put_before p [] x behind less = ap (λ r. match_ordering r (p ∷ x ∷ behind) (p ∷ behind) (x ∷ put cmp p behind)) less
  put_before p (q ∷ qs) x behind less =
      with_behind (cmp p.0 q.0) (p ∷ q ∷ qs) (p ∷ qs) (q ∷ put cmp p qs) _ (x ∷ behind)
      (ap (λ l. q ∷ l) (put_before p qs x behind less))

  merged_before : (pairs more : List (K × V)) (x : K × V) (behind : List (K × V)) → All (λ p. cmp p.0 x.0 ≡ Less) more
      → merged cmp (pairs ++ (x ∷ behind)) more ≡ merged cmp pairs more ++ (x ∷ behind)
  unfolding merged
  merged_before pairs [] x behind all = refl
  merged_before pairs (p ∷ ps) x behind all =
      ap (put cmp p) (merged_before pairs ps x behind (all_rest (λ q. cmp q.0 x.0 ≡ Less) p ps all))
      ∙ put_before p (merged cmp pairs ps) x behind (all_first (λ q. cmp q.0 x.0 ≡ Less) p ps all)

  -- a key above those of these pairs is put behind them
  put_behind : (p : K × V) (qs behind : List (K × V)) → All (λ q. cmp q.0 p.0 ≡ Less) qs
      → put cmp p (qs ++ behind) ≡ qs ++ put cmp p behind
  unfolding put
  put_behind p [] behind all = refl
  put_behind p (q ∷ qs) behind all =
      ap (λ r. match_ordering r (p ∷ q ∷ qs ++ behind) (p ∷ qs ++ behind) (q ∷ put cmp p (qs ++ behind)))
      (turned o q.0 p.0 Less (all_first (λ z. cmp z.0 p.0 ≡ Less) q qs all))
      ∙ ap (λ l. q ∷ l) (put_behind p qs behind (all_rest (λ z. cmp z.0 p.0 ≡ Less) q qs all))

  merged_last : (pairs more : List (K × V)) (p : K × V)
      → merged cmp pairs (more ++ p ∷ []) ≡ merged cmp (put cmp p pairs) more
  unfolding put merged
  merged_last pairs [] p = refl
  merged_last pairs (q ∷ qs) p = ap (put cmp q) (merged_last pairs qs p)

  -- a pair is put between those below it and those above it
  put_first : (p : K × V) (qs : List (K × V)) → All (λ q. cmp p.0 q.0 ≡ Less) qs → put cmp p qs ≡ p ∷ qs
  unfolding put
  put_first p [] above = refl
  put_first p (q ∷ qs) above =
      ap (λ r. match_ordering r (p ∷ q ∷ qs) (p ∷ qs) (q ∷ put cmp p qs)) (all_first (λ z. cmp p.0 z.0 ≡ Less) q qs above)

  put_gap : (y : K × V) (below above : List (K × V)) → All (λ q. cmp q.0 y.0 ≡ Less) below
      → All (λ q. cmp y.0 q.0 ≡ Less) above → put cmp y (below ++ above) ≡ below ++ y ∷ above
  put_gap y below above less more = put_behind y below above less ∙ ap (λ l. below ++ l) (put_first y above more)

  -- or in the place of one that ties with it
  put_tied : (x y : K × V) (below above : List (K × V)) → All (λ q. cmp q.0 y.0 ≡ Less) below → cmp x.0 y.0 ≡ Equal
      → put cmp y (below ++ x ∷ above) ≡ below ++ y ∷ above
  unfolding put
  put_tied x y below above less ties =
      put_behind y below (x ∷ above) less
      ∙ ap (λ r. below ++ match_ordering r (y ∷ x ∷ above) (y ∷ above) (x ∷ put cmp y above)) (turned o x.0 y.0 Equal ties)

  -- the last pair that comes
  last_put : (front below above more rest whole : List (K × V)) (y : K × V) → put cmp y front ≡ below ++ y ∷ above
      → All (λ p. cmp p.0 y.0 ≡ Less) more → merged cmp front (more ++ y ∷ []) ++ rest ≡ whole
      → merged cmp below more ++ (y ∷ (above ++ rest)) ≡ whole
  last_put front below above more rest whole y puts new same =
      sym (append_assoc (merged cmp below more) (y ∷ above) rest)
      ∙ ap (λ l. l ++ rest) (sym (merged_before below more y above new) ∙ ap (λ l. merged cmp l more) (sym puts)
      ∙ sym (merged_last front more y))
      ∙ same

  -- ---- places of a list

  at_place : (xs : List (K × V)) (i : ℕ) (x d : K × V) → i < length xs → x ≡ slice_index_or xs i x
      → slice_index_or xs i d ≡ x
  at_place xs i x d within is = get_or_default xs i d x within ∙ sym is

  rising_take : (n : ℕ) (xs : List (K × V)) → n ≤ length xs → IsRising cmp xs → IsRising cmp (take n xs)
  rising_take n xs long rising = λ i j d before within.
      let size : length (take n xs) ≡ n = length-take-le n xs long in
      let few : j < n = omega (arith, within, size) in
      rw (get_or-take n xs i d (omega (arith, before, few)), get_or-take n xs j d few) (rising i j d before (omega (arith, few, long)))

  pub rising_fewer : (xs : List (K × V)) (m n : ℕ) → m ≤ n → n ≤ length xs → IsRising cmp (take n xs)
      → IsRising cmp (take m xs)
  rising_fewer xs m n fewer long rising =
      let size : length (take n xs) ≡ n = length-take-le n xs long in
      rw (← take-take m n xs fewer) (rising_take m (take n xs) (omega (arith, fewer, size)) rising)

  -- all but the last of the first n are below it
  before_last : (xs : List (K × V)) (n : ℕ) (x : K × V) → IsRising cmp (take n xs) → 0 < n → n ≤ length xs
      → x ≡ slice_index_or xs (n - 1) x → All (λ p. cmp p.0 x.0 ≡ Less) (take (n - 1) xs)
  before_last xs n x rising some long is = λ i d within.
      let size : length (take n xs) ≡ n = length-take-le n xs long in
      let short : length (take (n - 1) xs) ≡ n - 1 = length-take-le (n - 1) xs (omega (arith, long)) in
      let few : i < n - 1 = omega (arith, within, short) in
      let less = rising i (n - 1) d few (omega (arith, size, some)) in
      let here = get_or-take n xs i d (omega (arith, few)) ∙ sym (get_or-take (n - 1) xs i d few) in
      let last = get_or-take n xs (n - 1) d (omega (arith, some)) ∙ at_place xs (n - 1) x d (omega (arith, some, long)) is in
      sym (ap (λ p. cmp p.0 x.0) here) ∙ sym (ap (λ p. cmp (slice_index_or (take n xs) i d).0 p.0) last) ∙ less

  front_at : (xs : List (K × V)) (n : ℕ) (x : K × V) → 0 < n → n ≤ length xs → x ≡ slice_index_or xs (n - 1) x
      → take n xs ≡ take (n - 1) xs ++ x ∷ []
  front_at xs n x some long is =
      let on : n ≡ (n - 1) + 1 = omega (arith, some) in
      ap (λ m. take m xs) on ∙ take_more xs (n - 1) x (omega (arith, some, long)) ∙ ap (λ y. take (n - 1) xs ++ y ∷ []) (sym is)

  pub compared_at : (xs : List (K × V)) (n i : ℕ) (x : K × V) (key : K) (r : Ordering) → i < n → n ≤ length xs
      → cmp (slice_index_or xs i x).0 key ≡ r → (d : K × V) → cmp (slice_index_or (take n xs) i d).0 key ≡ r
  compared_at xs n i x key r before long answer = λ d.
      ap (λ p. cmp p.0 key) (get_or-take n xs i d before ∙ get_or_default xs i d x (omega (arith, before, long))) ∙ answer

  split_at : (xs : List (K × V)) (i n : ℕ) → i ≤ n → take n xs ≡ take i xs ++ take (n - i) (drop i xs)
  split_at xs i n before =
      let on : n ≡ i + (n - i) = omega (arith, before) in
      sym (take-append-drop i (take n xs))
      ∙ ap (λ l. l ++ drop i (take n xs)) (take-take i n xs before)
      ∙ ap (λ m. take i xs ++ drop i (take m xs)) on
      ∙ ap (λ l. take i xs ++ l) (drop-take i (n - i) xs)

  split_behind : (xs : List (K × V)) (i n : ℕ) (d : K × V) → i < n → n ≤ length xs
      → take n xs ≡ take i xs ++ slice_index_or xs i d ∷ take (n - (i + 1)) (drop (i + 1) xs)
  split_behind xs i n d before long =
      let on : n - i ≡ suc (n - (i + 1)) = omega (arith, before) in
      split_at xs i n (omega (arith, before))
      ∙ ap (λ l. take i xs ++ take (n - i) l) (drop_more xs i d (omega (arith, before, long)))
      ∙ ap (λ m. take i xs ++ take m (slice_index_or xs i d ∷ drop (i + 1) xs)) on

  -- ---- the turns of a merge that begins at the end of the list

  module _ (items more whole : List (K × V)) (low left high i : ℕ) (y : K × V) (within : low ≤ length items)
      (some : 0 < left) (few : left ≤ length more) (rising : IsRising cmp (take low items)) (rises : IsRising cmp more)
      (is : y ≡ slice_index_or more (left - 1) y)
      (same : merged cmp (take low items) (take left more) ++ drop high items ≡ whole) where
    new_below : All (λ p. cmp p.0 y.0 ≡ Less) (take (left - 1) more)
    new_below = before_last more left y (rising_take left more few rises) some few is

    with_last : merged cmp (take low items) (take (left - 1) more ++ y ∷ []) ++ drop high items ≡ whole
    with_last = rw (front_at more left y some few is) at same

    -- the last key that comes is not in the table
    pub turn_gap : Narrows cmp (take low items) y.0 i i
        → merged cmp (take i items) (take (left - 1) more) ++ (y ∷ (take (low - i) (drop i items) ++ drop high items))
        ≡ whole
    turn_gap gap =
        let size : length (take low items) ≡ low = length-take-le low items within in
        let front : i ≤ low = omega (arith, size, gap.within) in
        let short : length (take i items) ≡ i = length-take-le i items (omega (arith, front, within)) in
        let below : All (λ p. cmp p.0 y.0 ≡ Less) (take i items) = λ j d inside.
        let first : j < i = omega (arith, inside, short) in
        let here = get_or-take low items j d (omega (arith, first, front)) ∙ sym (get_or-take i items j d first) in
        sym (ap (λ p. cmp p.0 y.0) here) ∙ gap.below j d first in
        let above : All (λ p. cmp y.0 p.0 ≡ Less) (take (low - i) (drop i items)) = λ j d inside.
        let last : length (take (low - i) (drop i items)) ≡ low - i =
        length-take-le (low - i) (drop i items) (omega (arith, within, front, length-drop i items)) in
        let few_more : j < low - i = omega (arith, inside, last) in
        let at = get_or-take (low - i) (drop i items) j d few_more ∙ get_or-drop i items j d
        ∙ sym (get_or-take low items (i + j) d (omega (arith, few_more))) in
        ap (λ p. cmp y.0 p.0) at
        ∙ turned o _ y.0 Greater (gap.above (i + j) d (omega arith) (omega (arith, few_more, size))) in
        last_put (take low items) (take i items) (take (low - i) (drop i items)) (take (left - 1) more) (drop high items) whole y
        (ap (put cmp y) (split_at items i low front) ∙ put_gap y (take i items) (take (low - i) (drop i items)) below above)
        new_below with_last

    -- it is in the table
    pub turn_found : i < low → ((d : K × V) → cmp (slice_index_or items i d).0 y.0 ≡ Equal)
        → merged cmp (take i items) (take (left - 1) more)
        ++ (y ∷ (take (low - (i + 1)) (drop (i + 1) items) ++ drop high items)) ≡ whole
    turn_found before ties =
        let size : length (take low items) ≡ low = length-take-le low items within in
        let short : length (take i items) ≡ i = length-take-le i items (omega (arith, before, within)) in
        let below : All (λ p. cmp p.0 y.0 ≡ Less) (take i items) = λ j d inside.
        let first : j < i = omega (arith, inside, short) in
        let here = get_or-take low items j d (omega (arith, first, before)) ∙ sym (get_or-take i items j d first) in
        let there = get_or-take low items i d before in
        sym (ap (λ p. cmp p.0 y.0) here)
        ∙ less_tied o _ (slice_index_or items i d).0 y.0
        (ap (λ p. cmp (slice_index_or (take low items) j d).0 p.0) (sym there) ∙ rising j i d first (omega (arith, before, size)))
        (ties d) in
        last_put (take low items) (take i items) (take (low - (i + 1)) (drop (i + 1) items)) (take (left - 1) more) (drop high items) whole y
        (ap (put cmp y) (split_behind items i low y before within)
        ∙ put_tied (slice_index_or items i y) y (take i items) (take (low - (i + 1)) (drop (i + 1) items)) below (ties y))
        new_below with_last

  -- where no more comes, all is merged
  pub turn_none : (xs more rest whole : List (K × V)) (left : ℕ) → left ≤ 0
      → merged cmp xs (take left more) ++ rest ≡ whole
      → xs ++ rest ≡ whole
  unfolding merged
  turn_none xs more rest whole zero none same = same
  turn_none xs more rest whole (suc left) none same = absurd (omega (arith, none))
