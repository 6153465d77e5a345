-- When are two keys the same, and when does a list have a key?
use Rattle.std.proofs.Common.{◌≡◌, true, List, [], ◌∷◌, refl, arith}
use Rattle.std.proofs.lemmas.Bool.Decides.{nat_tests}
use Rattle.score_base.specs.declared.keys.Key.{Key}
use Rattle.score_base.specs.Keys.{same_key}
use Rattle.script_lang.specs.Reads.{is_key_among}

-- ---- one key

pub same_key-is : (a b : Key) → same_key a b ≡ true → a ≡ b
same_key-is [] [] h = refl
same_key-is [] (y ∷ ys) h = cc
same_key-is (x ∷ xs) [] h = cc
same_key-is (x ∷ xs) (y ∷ ys) h = grind (arith, nat_tests, same_key-is xs ys)

pub same_key-self : (a : Key) → same_key a a ≡ true
same_key-self [] = refl
same_key-self (x ∷ xs) = grind (arith, nat_tests, same_key-self xs)

pub same_key-turned : (a b : Key) → same_key a b ≡ same_key b a
same_key-turned [] [] = refl
same_key-turned [] (y ∷ ys) = refl
same_key-turned (x ∷ xs) [] = refl
same_key-turned (x ∷ xs) (y ∷ ys) = grind (arith, nat_tests, same_key-turned xs ys)

-- ---- a key of a list

pub among-here : (k : Key) (ks : List Key) → is_key_among k (k ∷ ks) ≡ true
among-here k ks = rw (same_key-self k) refl

pub among-later : (k x : Key) (ks : List Key) → is_key_among k ks ≡ true → is_key_among k (x ∷ ks) ≡ true
among-later k x ks h = grind (arith, h)
