-- Which keys and numbers stand in an ordered set, and that a new member leaves a list distinct.
use Rattle.std.proofs.Common.{◌≡◌, ℕ, ◌≤◌, length, arith, Bool, true, false, ◌&&◌, ◌||◌, ◌==◌, not, List, [], ◌∷◌, ◌++◌, refl, sym, ap, ◌∙◌}
use Rattle.std.specs.Prelude.{fold}
use Rattle.std.specs.Ordering.{match_ordering, nat_cmp}
use Rattle.std.specs.declared.cmp.Ordering.{Ordering}
use Rattle.std.specs.declared.cmp.Ordering.TheVariants.{Less, Equal, Greater}
use Rattle.std.specs.Cmp.Lexicographic.{slice_cmp}
use Rattle.std.specs.List.{list_any}
use Rattle.std.specs.BTreeSet.{insert_key}
use Rattle.std.proofs.Math.Bool.{or-false}
use Rattle.std.proofs.lemmas.Bool.{and_parts, or_parts, not-true}
use Rattle.std.proofs.lemmas.List.Folds.{list_any-append}
use Rattle.std.proofs.lemmas.List.Sums.{fold-append}
use Rattle.std.proofs.lemmas.Map.Lookups.{exact_unsigned, exact_bytes}
use Rattle.score_base.specs.declared.keys.Key.{Key}
use Rattle.score_base.specs.declared.ids.TxId.{TxId}
use Rattle.score_base.specs.Keys.{same_key}
use Rattle.grid_model.specs.Documents.{key_order, number_order}
use Rattle.script_lang.proofs.Seen.{or_swap}
use Rattle.cluster_file.proofs.Bools.{or_twice, or_turn}

module _ {K : Type 0} (cmp : K → K → Ordering) (p : K → Bool) (same : (k x : K) → cmp k x ≡ Equal → p x ≡ p k) where
  list_any_insert : (k : K) (ks : List K) → list_any p (insert_key cmp ks k) ≡ (p k || list_any p ks)
  list_any_insert k [] = refl
  list_any_insert k (x ∷ xs) = by (cmp k x) refl (list_any_insert k xs)
    where
      by : (r : Ordering) → cmp k x ≡ r → list_any p (insert_key cmp xs k) ≡ (p k || list_any p xs)
          → list_any p (match_ordering r (k ∷ x ∷ xs) (x ∷ xs) (x ∷ insert_key cmp xs k))
          ≡ (p k || (p x || list_any p xs))
      by Less e h = refl
      by Equal e h = rw (same k x e) (or_twice (p k) (list_any p xs))
      by Greater e h = rw h (or_swap (p x) (p k) (list_any p xs))

  pub list_any_fold : (acc ks : List K) → list_any p (fold (insert_key cmp) acc ks) ≡ (list_any p acc || list_any p ks)
  list_any_fold acc [] = sym (or-false (list_any p acc))
  list_any_fold acc (k ∷ ks) = list_any_fold (insert_key cmp acc k) ks ∙ ap (λ b. b || list_any p ks) (list_any_insert k acc) ∙ or_turn (p k) (list_any p acc) (list_any p ks)

-- a number is among the ordered ones exactly where it is among them
pub among_numbers : (t : TxId) (ts : List TxId) → list_any (λ u. u == t) (number_order ts) ≡ list_any (λ u. u == t) ts
among_numbers t ts = list_any_fold nat_cmp (λ (u : ℕ). u == t) (λ k x e. ap (λ (u : ℕ). u == t) (sym (exact_unsigned k x e))) [] ts

-- a key is among the ordered ones exactly where it is among them
pub among_keys : (k : Key) (ks : List Key) → list_any (same_key k) (key_order ks) ≡ list_any (same_key k) ks
among_keys k ks = list_any_fold (slice_cmp nat_cmp) (same_key k) (λ y x e. ap (same_key k) (sym (exact_bytes y x e))) [] ks

-- a list is distinct with one more member that is not among it
pub distinct_more : {K : Type 0} (eq : K → K → Bool) (sides : (a b : K) → eq a b ≡ eq b a) (f : List K → Bool)
    (none : f [] ≡ true) (one : (x : K) (xs : List K) → f (x ∷ xs) ≡ (not (list_any (λ y. eq y x) xs) && f xs))
    (xs : List K) (n : K) → f xs ≡ true → list_any (λ y. eq y n) xs ≡ false → f (xs ++ n ∷ []) ≡ true
distinct_more eq sides f none one [] n d new = rw (one n [], none) refl
distinct_more eq sides f none one (x ∷ xs) n d new =
    let parts = and_parts (not (list_any (λ y. eq y x) xs)) (f xs) (sym (one x xs) ∙ d) in
    let news = or_parts (eq x n) (list_any (λ y. eq y n) xs) new in
    let old : list_any (λ y. eq y x) xs ≡ false = not-true (list_any (λ y. eq y x) xs) parts.0 in
    let other : eq n x ≡ false = sides n x ∙ news.0 in
    let rest : f (xs ++ n ∷ []) ≡ true = distinct_more eq sides f none one xs n parts.1 news.1 in
    rw (one x (xs ++ n ∷ []), list_any-append, old, other, rest) refl

-- of a distinct list, no member stands among those before it
pub distinct_before : {K : Type 0} (eq : K → K → Bool) (sides : (a b : K) → eq a b ≡ eq b a) (f : List K → Bool)
    (one : (x : K) (xs : List K) → f (x ∷ xs) ≡ (not (list_any (λ y. eq y x) xs) && f xs)) (xs : List K) (n : K)
    (ys : List K) → f (xs ++ n ∷ ys) ≡ true → list_any (λ y. eq y n) xs ≡ false
distinct_before eq sides f one [] n ys d = refl
distinct_before eq sides f one (x ∷ xs) n ys d =
    let parts = and_parts (not (list_any (λ y. eq y x) (xs ++ n ∷ ys))) (f (xs ++ n ∷ ys)) (sym (one x (xs ++ n ∷ ys)) ∙ d) in
    let apart : (list_any (λ y. eq y x) xs || (eq n x || list_any (λ y. eq y x) ys)) ≡ false = sym (list_any-append (λ y. eq y x) xs (n ∷ ys)) ∙ not-true (list_any (λ y. eq y x) (xs ++ n ∷ ys)) parts.0 in
    let other = or_parts (eq n x) (list_any (λ y. eq y x) ys) (or_parts (list_any (λ y. eq y x) xs) (eq n x || list_any (λ y. eq y x) ys) apart).1 in
    let turned : eq x n ≡ false = sides x n ∙ other.0 in
    rw (turned, distinct_before eq sides f one xs n ys parts.1) refl

-- a key more makes an ordered list no shorter
longer_insert : {K : Type 0} (cmp : K → K → Ordering) (k : K) (ks : List K) → length ks ≤ length (insert_key cmp ks k)
longer_insert cmp k [] = omega arith
longer_insert cmp k (x ∷ xs) = by (cmp k x) (longer_insert cmp k xs)
  where
    by : (r : Ordering) → length xs ≤ length (insert_key cmp xs k)
        → length (x ∷ xs) ≤ length (match_ordering r (k ∷ x ∷ xs) (x ∷ xs) (x ∷ insert_key cmp xs k))
    by Less h = omega arith
    by Equal h = omega arith
    by Greater h = omega (arith, h)

longer_fold : {K : Type 0} (cmp : K → K → Ordering) (acc ks : List K)
    → length acc ≤ length (fold (insert_key cmp) acc ks)
longer_fold cmp acc [] = omega arith
longer_fold cmp acc (k ∷ ks) = omega (arith, longer_insert cmp k acc, longer_fold cmp (insert_key cmp acc k) ks)

-- some keys have no more distinct ones than they and others
pub fewer_keys : (ks more : List Key) → length (key_order ks) ≤ length (key_order (ks ++ more))
fewer_keys ks more = omega (arith, longer_fold (slice_cmp nat_cmp) (key_order ks) more, ap length (fold-append (insert_key (slice_cmp nat_cmp)) [] ks more))
