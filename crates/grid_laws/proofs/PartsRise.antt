-- The parts of a transaction are at most 16 nodes, rising, each of which holds one of its keys.
use Rattle.std.proofs.Common.{◌≡◌, ℕ, ◌+◌, ◌≤◌, ◌<◌, inl, inr, Bool, true, false, List, [], ◌∷◌, length, refl, subst, arith, zero, suc}
use Rattle.std.proofs.lemmas.Bool.{or_cases, and_parts}
use Rattle.std.proofs.lemmas.Bool.Decides.{nat_tests}
use Rattle.std.specs.Prelude.{◌==◌, filter, if◌then◌else◌, nat_le}
use Rattle.std.specs.List.{list_any, range_with_len}
use Rattle.score_base.specs.declared.ids.NodeId.{NodeId}
use Rattle.score_base.specs.declared.keys.Key.{Key}
use Rattle.placement.specs.Places.{is_among, holds, parts}
use Rattle.grid_model.specs.Fitness.{is_rising}

-- ---- those of some numbers that pass a test

rising-range : (p : NodeId → Bool) (j a n : ℕ) → j < a → is_rising (j ∷ filter p (range_with_len a n)) ≡ true
rising-range p j a zero low = refl
rising-range p j a (suc n) low = go (p a) (rising-range p a (a + 1) n (omega arith)) (rising-range p j (a + 1) n (omega arith))
  where
    go : (b : Bool) → is_rising (a ∷ filter p (range_with_len (a + 1) n)) ≡ true
        → is_rising (j ∷ filter p (range_with_len (a + 1) n)) ≡ true
        → is_rising (j ∷ (if b then a ∷ filter p (range_with_len (a + 1) n) else filter p (range_with_len (a + 1) n)))
        ≡ true
    go true here later = grind (arith, nat_tests, low, here)
    go false here later = later

rising-rest : (j : ℕ) (ns : List NodeId) → is_rising (j ∷ ns) ≡ true → is_rising ns ≡ true
rising-rest j [] h = refl
rising-rest j (n ∷ ns) h = (and_parts _ (is_rising (n ∷ ns)) h).1

length-range : (p : NodeId → Bool) (a n : ℕ) → length (filter p (range_with_len a n)) ≤ n
length-range p a zero = omega arith
length-range p a (suc n) = go (p a) (length-range p (a + 1) n)
  where
    go : (b : Bool) → length (filter p (range_with_len (a + 1) n)) ≤ n
        → length (if b then a ∷ filter p (range_with_len (a + 1) n) else filter p (range_with_len (a + 1) n)) ≤ suc n
    go true h = omega (arith, h)
    go false h = omega (arith, h)

passes-among : (p : NodeId → Bool) (n : NodeId) (ns : List NodeId) → is_among n (filter p ns) ≡ true → p n ≡ true
passes-among p n [] h = cc
passes-among p n (m ∷ ns) h = go (p m) refl h (λ e. passes-among p n ns e)
  where
    here : (m == n) ≡ true → p m ≡ true → p n ≡ true
    here e h = let is : m ≡ n = grind (arith, nat_tests, e) in subst (λ k. p k ≡ true) is h

    go : (b : Bool) → p m ≡ b → is_among n (if b then m ∷ filter p ns else filter p ns) ≡ true
        → (is_among n (filter p ns) ≡ true → p n ≡ true) → p n ≡ true
    go true e h more = elim (or_cases (m == n) (is_among n (filter p ns)) h) [
      | inl first ↦ here first e
      | inr later ↦ more later
    ]
    go false e h more = more h

-- ---- the parts

pub parts-rise : (places : List (List NodeId)) (ks : List Key) → is_rising (parts places ks) ≡ true
parts-rise places ks = rising-rest 0 (parts places ks) (rising-range (λ n. list_any (holds places n) ks) 0 1 16 (omega arith))

pub parts-most : (places : List (List NodeId)) (ks : List Key) → nat_le (length (parts places ks)) 16 ≡ true
parts-most places ks = at-most (length (parts places ks)) 16 (length-range (λ n. list_any (holds places n) ks) 1 16)
  where
    at-most : (a b : ℕ) → a ≤ b → nat_le a b ≡ true
    at-most a b le = grind (arith, nat_tests, le)

pub among-some : (n : NodeId) (ns : List NodeId) → is_among n ns ≡ true → nat_le 1 (length ns) ≡ true
among-some n [] h = cc
among-some n (m ∷ ns) h = grind (arith, nat_tests)

-- a part holds one of the keys
pub part-holds : (places : List (List NodeId)) (ks : List Key) (n : NodeId) → is_among n (parts places ks) ≡ true
    → list_any (holds places n) ks ≡ true
part-holds places ks n h = passes-among (λ m. list_any (holds places m) ks) n (range_with_len 1 16) h
