-- A table in rising order, read as a finite map: what a look-up, an insert and a removal say of it.
use Prim.Native.Nat.{zero, suc}
use Rattle.std.proofs.Common.{◌≡◌, ℕ, ◌<◌, ◌≤◌, Bool, true, false, cond, List, [], ◌∷◌, Option, Some, None, length, refl, sym, ap, ◌∙◌, inl, inr, arith}
use Rattle.std.specs.Cmp.{IsTotalOrder}
use Rattle.std.specs.declared.cmp.Ordering.{Ordering}
use Rattle.std.specs.declared.cmp.Ordering.TheVariants.{Less, Equal, Greater}
use Rattle.std.specs.Ordering.{eq_by_cmp, is_eq, ordering_reverse}
use Rattle.std.specs.List.{slice_index_or, insert, remove, All}
use Rattle.std.specs.FinMap as map
use Rattle.std.proofs.lemmas.Bool.{cases_lt}
use Rattle.score_base.specs.Tables.{IsRising, IsGap}

-- no key of a list ties with this one
abbrev pub IsAbsent : {K V : Type 0} → (K → K → Ordering) → List (K × V) → K → Type 0
IsAbsent cmp pairs key = All (λ p. eq_by_cmp cmp key p.0 ≡ false) pairs

either : {A : Type 0} (a b : Bool) (x y z : A) → (a ≡ true → b ≡ false) → cond a x (cond b y z) ≡ cond b y (cond a x z)
either true true x y z apart = absurd (let bad : true ≡ false = apart refl in cc)
either true false x y z apart = refl
either false b x y z apart = refl

same_test : (r : Ordering) → is_eq r ≡ true → r ≡ Equal
same_test Equal e = refl
same_test Less e = cc
same_test Greater e = cc

gone : {A : Type 0} (b : Bool) (x y : Option A) → (b ≡ true → y ≡ None) → y ≡ cond b None (cond b x y)
gone true x y none = none refl
gone false x y none = refl

-- a table without its first pair is in rising order
pub rising_rest : {K V : Type 0} (cmp : K → K → Ordering) (p : K × V) (ps : List (K × V)) → IsRising cmp (p ∷ ps)
    → IsRising cmp ps
rising_rest cmp p ps rising = λ i j d before within. rising (suc i) (suc j) d (omega (arith, before)) (omega (arith, within))

module _ {K : Type 0} {cmp : K → K → Ordering} (o : IsTotalOrder cmp) where
  after : (x y : K) → cmp x y ≡ Less → cmp y x ≡ Greater
  after x y less = o.antisymm y x ∙ ap ordering_reverse less

  apart_less : (x y : K) → cmp x y ≡ Less → eq_by_cmp cmp y x ≡ false
  apart_less x y less = ap is_eq (after x y less)

  apart_greater : (x y : K) → cmp x y ≡ Greater → eq_by_cmp cmp y x ≡ false
  apart_greater x y more = ap is_eq (o.antisymm y x ∙ ap ordering_reverse more)

  -- a key that ties with one of two that do not tie does not tie with the other
  not_both : (q x y : K) → eq_by_cmp cmp x y ≡ false → eq_by_cmp cmp q x ≡ true → eq_by_cmp cmp q y ≡ false
  not_both q x y apart ties = ap is_eq (o.congr q x y (same_test (cmp q x) ties)) ∙ apart

module _ {K V : Type 0} {cmp : K → K → Ordering} (o : IsTotalOrder cmp) where
  pub gap_absent : (pairs : List (K × V)) (key : K) (i : ℕ) → IsGap cmp pairs key i → IsAbsent cmp pairs key
  gap_absent pairs key i gap = λ j d within. elim (cases_lt j i) [
    | inl low ↦ apart_less o _ key (gap.below j d low)
    | inr high ↦ apart_greater o _ key (gap.above j d high within)
  ]

  pub find_absent : (pairs : List (K × V)) (key : K) → IsAbsent cmp pairs key → map.find cmp key pairs ≡ None
  find_absent [] key none = refl
  find_absent (p ∷ ps) key none =
      ap (λ b. cond b (Some p.1) (map.find cmp key ps)) (none 0 p (omega arith)) ∙ find_absent ps key (λ j d within. none (suc j) d (omega (arith, within)))

  pub find_at : (pairs : List (K × V)) (i : ℕ) (d : K × V) (key : K) → IsRising cmp pairs → i < length pairs
      → cmp (slice_index_or pairs i d).0 key ≡ Equal → map.find cmp key pairs ≡ Some (slice_index_or pairs i d).1
  find_at [] i d key rising within ties = absurd (omega (arith, within))
  find_at (p ∷ ps) zero d key rising within ties =
      ap (λ b. cond b (Some p.1) (map.find cmp key ps)) (ap is_eq (o.antisymm key p.0 ∙ ap ordering_reverse ties))
  find_at (p ∷ ps) (suc i) d key rising within ties =
      let before : cmp p.0 (slice_index_or ps i d).0 ≡ Less = rising 0 (suc i) d (omega arith) within in
      let less : cmp key p.0 ≡ Greater = sym (o.congr _ key p.0 ties) ∙ after o _ _ before in
      ap (λ b. cond b (Some p.1) (map.find cmp key ps)) (ap is_eq less) ∙ find_at ps i d key (rising_rest cmp p ps rising) (omega (arith, within)) ties

  pub find_insert : (pairs : List (K × V)) (i : ℕ) (k : K) (v : V) (q : K) → i ≤ length pairs → IsAbsent cmp pairs k
      → map.find cmp q (insert pairs i (k, v)) ≡ cond (eq_by_cmp cmp q k) (Some v) (map.find cmp q pairs)
  find_insert pairs zero k v q within none = refl
  find_insert [] (suc i) k v q within none = absurd (omega (arith, within))
  find_insert (p ∷ ps) (suc i) k v q within none =
      ap (cond (eq_by_cmp cmp q p.0) (Some p.1)) (find_insert ps i k v q (omega (arith, within)) (λ j d more. none (suc j) d (omega (arith, more))))
      ∙ sym (either (eq_by_cmp cmp q k) (eq_by_cmp cmp q p.0) (Some v) (Some p.1) (map.find cmp q ps) (not_both o q k p.0 (none 0 p (omega arith))))

  pub find_remove : (pairs : List (K × V)) (i : ℕ) (d : K × V) (q : K) → IsRising cmp pairs → i < length pairs
      → map.find cmp q (remove pairs i)
      ≡ cond (eq_by_cmp cmp q (slice_index_or pairs i d).0) None (map.find cmp q pairs)
  find_remove [] i d q rising within = absurd (omega (arith, within))
  find_remove (p ∷ ps) zero d q rising within =
      gone (eq_by_cmp cmp q p.0) (Some p.1) (map.find cmp q ps)
      (λ ties. find_absent ps q (λ j e more. ap is_eq (o.congr q p.0 _ (same_test (cmp q p.0) ties) ∙ rising 0 (suc j) e (omega arith) (omega (arith, more)))))
  find_remove (p ∷ ps) (suc i) d q rising within =
      ap (cond (eq_by_cmp cmp q p.0) (Some p.1)) (find_remove ps i d q (rising_rest cmp p ps rising) (omega (arith, within)))
      ∙ either (eq_by_cmp cmp q p.0) (eq_by_cmp cmp q (slice_index_or ps i d).0) (Some p.1) None (map.find cmp q ps)
      (not_both o q p.0 (slice_index_or ps i d).0 (ap is_eq (rising 0 (suc i) d (omega arith) within)))

module _ {K V : Type 0} {cmp : K → K → Ordering} (o : IsTotalOrder cmp) (same : map.IsAntisymmetric cmp) where
  pub map_found : (pairs : List (K × V)) (i : ℕ) (d : K × V) (key : K) → IsRising cmp pairs → i < length pairs
      → cmp (slice_index_or pairs i d).0 key ≡ Equal
      → map.get {R = cmp} (map.from_entries pairs) key ≡ Some (slice_index_or pairs i d).1
  map_found pairs i d key rising within ties = map.get-from_entries o pairs key ∙ find_at o pairs i d key rising within ties

  pub map_absent : (pairs : List (K × V)) (key : K) (i : ℕ) → IsGap cmp pairs key i
      → map.get {R = cmp} (map.from_entries pairs) key ≡ None
  map_absent pairs key i gap = map.get-from_entries o pairs key ∙ find_absent o pairs key (gap_absent o pairs key i gap)

  pub map_insert : (pairs : List (K × V)) (i : ℕ) (k : K) (v : V) → IsGap cmp pairs k i
      → map.from_entries {R = cmp} (insert pairs i (k, v)) ≡ map.insert (map.from_entries pairs) k v
  map_insert pairs i k v gap =
      map.same_map o same _ _
      (λ q. map.get-from_entries o _ q ∙ find_insert o pairs i k v q gap.within (gap_absent o pairs k i gap)
      ∙ sym (map.get-insert o (map.from_entries pairs) k v q ∙ ap (cond (eq_by_cmp cmp q k) (Some v)) (map.get-from_entries o pairs q)))

  pub map_remove : (pairs : List (K × V)) (i : ℕ) (d : K × V) → IsRising cmp pairs → i < length pairs
      → map.from_entries {R = cmp} (remove pairs i) ≡ map.remove (map.from_entries pairs) (slice_index_or pairs i d).0
  map_remove pairs i d rising within =
      map.same_map o same _ _
      (λ q. map.get-from_entries o _ q ∙ find_remove o pairs i d q rising within
      ∙ sym (map.get-remove o (map.from_entries pairs) (slice_index_or pairs i d).0 q ∙ ap (cond (eq_by_cmp cmp q (slice_index_or pairs i d).0) None) (map.get-from_entries o pairs q)))
