-- What naming a key does to the keys that were named.
use Rattle.std.proofs.Common.{◌≡◌, ℕ, ◌+◌, ◌≤◌, nat_le, Bool, true, List, [], ◌∷◌, length, Ok, IfOk, refl, arith}
use Rattle.std.specs.Ordering.{match_ordering, nat_cmp}
use Rattle.std.specs.declared.cmp.Ordering.{Ordering}
use Rattle.std.specs.declared.cmp.Ordering.TheVariants.{Less, Equal, Greater}
use Rattle.std.specs.Cmp.Lexicographic.{slice_cmp}
use Rattle.std.specs.List.{list_any}
use Rattle.std.specs.BTreeSet.{BTreeSet, insert_key}
use Rattle.std.proofs.lemmas.Bool.Decides.{nat_tests}
use Rattle.score_base.specs.declared.keys.Key.{Key}
use Rattle.script_lang.specs.Names.{with_key, name_key}
use Rattle.script_lang.proofs.Readings.{either}

pub list_any_same : {X : Type 0} (p q : X → Bool) → ((x : X) → p x ≡ q x) → (xs : List X)
    → list_any p xs ≡ list_any q xs
list_any_same p q h [] = refl
list_any_same p q h (x ∷ xs) = rw (h x, list_any_same p q h xs) refl

-- a key that was named is among at most so many
pub name_read : (most : ℕ) (named : BTreeSet Key) (k : Key)
    → IfOk (name_key most named k) (λ more. (more ≡ with_key named k) × (length more.keys ≤ most))
name_read most named k = either (nat_le (length (with_key named k).keys) most) _ _ _ (λ e. (refl, grind (arith, nat_tests, e))) (λ _. tt)

pub name_again : (most : ℕ) (named : BTreeSet Key) (k : Key)
    → length (insert_key (slice_cmp nat_cmp) named.keys k) ≤ most → name_key most named k ≡ Ok (with_key named k)
name_again most named k h =
    let room : nat_le (length (insert_key (slice_cmp nat_cmp) named.keys k)) most ≡ true = grind (arith, nat_tests, h) in
    rw room refl

-- a key more makes an ordered list longer by one at most
pub insert_longer : {K : Type 0} (cmp : K → K → Ordering) (k : K) (ks : List K)
    → length (insert_key cmp ks k) ≤ length ks + 1
insert_longer cmp k [] = omega arith
insert_longer cmp k (x ∷ xs) = by (cmp k x) (insert_longer cmp k xs)
  where
    by : (r : Ordering) → length (insert_key cmp xs k) ≤ length xs + 1
        → length (match_ordering r (k ∷ x ∷ xs) (x ∷ xs) (x ∷ insert_key cmp xs k)) ≤ length (x ∷ xs) + 1
    by Less h = omega arith
    by Equal h = omega arith
    by Greater h = omega (arith, h)
