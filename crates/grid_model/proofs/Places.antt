-- Looking up and changing a list of pairs by the first of each pair.
use Rattle.std.proofs.Common.{◌≡◌, ◌≢◌, ℕ, ◌<◌, List, [], ◌∷◌, ◌++◌, length, get_or, take, drop, ap, sym, ◌∙◌, arith, Some, drop-cons, suc}
use Rattle.std.proofs.lemmas.List.{set_split}
use Rattle.std.proofs.lemmas.Bool.Decides.{nat_tests}
use Rattle.grid_model.specs.Keyed.{at_key, put_key}
use Rattle.grid_model.specs.Keyed.{IsPlace}

at_here : {A : Type 0} (k : ℕ) (x : ℕ × A) (xs : List (ℕ × A)) → x.0 ≡ k → at_key k (x ∷ xs) ≡ Some x.1
at_here k x xs e = grind (arith, nat_tests)

put_here : {A : Type 0} (k : ℕ) (a : A) (x : ℕ × A) (xs : List (ℕ × A)) → x.0 ≡ k → put_key k a (x ∷ xs) ≡ (k, a) ∷ xs
put_here k a x xs e = grind (arith, nat_tests)

pub place_here : {A : Type 0} (k : ℕ) (xs : List (ℕ × A)) (i : ℕ) (x : ℕ × A) → i < length xs → x ≡ get_or xs i x
    → x.0 ≡ k → at_key k (drop i xs) ≡ at_key k xs → ((a : A) → put_key k a xs ≡ take i xs ++ put_key k a (drop i xs))
    → IsPlace k xs i
place_here {A} k xs i x h is e at put = record {
  inside = h;
  value = x.1;
  at = sym at ∙ ap (at_key k) (drop-cons xs i x h) ∙ rw (← is) (at_here k x (drop (suc i) xs) e);
  here = λ d.
      let o : get_or xs i d ∷ drop (suc i) xs ≡ get_or xs i x ∷ drop (suc i) xs = sym (drop-cons xs i d h) ∙ drop-cons xs i x h in
      let s : get_or xs i d ≡ x = (cc) in
      s ∙ ap (λ j. let y : ℕ × A = (j, x.1) in y) e;
  put = λ a. put a ∙ ap (λ ys. take i xs ++ put_key k a ys) (drop-cons xs i x h) ∙ rw (← is) (ap (λ ys. take i xs ++ ys) (put_here k a x (drop (suc i) xs) e)) ∙ sym (set_split xs i (k, a) h);
}

pub at-put : {A : Type 0} (k : ℕ) (a : A) (xs : List (ℕ × A)) → at_key k (put_key k a xs) ≡ Some a
at-put k a [] = grind (arith, nat_tests)
at-put k a (x ∷ xs) = grind (arith, nat_tests, at-put k a xs)

pub put-other : {A : Type 0} (k j : ℕ) (a : A) (xs : List (ℕ × A)) → k ≢ j → at_key k (put_key j a xs) ≡ at_key k xs
put-other k j a [] e = grind (arith, nat_tests)
put-other k j a (x ∷ xs) e = grind (arith, nat_tests, put-other k j a xs)
