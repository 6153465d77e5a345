-- The parts of a script: at least one, at most 16, rising.
use Rattle.std.proofs.Common.{◌≡◌, ◌≤◌, ◌<◌, ◌+◌, ℕ, zero, suc, Bool, true, false, if◌then◌else◌, List, [], ◌∷◌, inl, inr, length, filter, refl, sym, ap, subst, ◌∙◌, arith}
use Rattle.std.proofs.lemmas.Bool.{cases_eq}
use Rattle.std.proofs.lemmas.Bool.Decides.{nat_tests}
use Rattle.std.specs.List.{list_any, range_with_len, slice_index_or}
use Rattle.std.specs.List.Sorted.{IsStrictlyIncreasing}
use Rattle.std.proofs.lemmas.List.FromFn.{get_or-range_with_len}
use Rattle.std.proofs.lemmas.List.Kept.{IsStrictlyIncreasing-filter}
use Rattle.score_base.specs.declared.keys.Key.{Key}
use Rattle.score_base.specs.declared.ids.NodeId.{NodeId}
use Rattle.script_lang.specs.declared.scripts.Op.{Op}
use Rattle.script_lang.specs.Reads.{key_of, keys_of}
use Rattle.placement.specs.Places.{holds, parts}
use Rattle.placement.specs.Clusters.{ClusterData}
use Rattle.grid_model.specs.Views.{Open}
use Rattle.grid_model.specs.Advances.{parts_now}
use Rattle.presumed_abort.specs.Parts.{AreParts}

-- ---- a node that passes is among the rising ones

passes :
    (p : ℕ → Bool) (n a k : ℕ)
    → p n ≡ true → a ≤ n → n < a + k → 1 ≤ length (filter p (range_with_len a k))
passes p n a zero is low high = absurd (omega (arith, low, high))
passes p n a (suc k) is low high =
    go (p a) refl (λ above. passes p n (a + 1) k is above (omega (arith, high)))
  where
    go :
        (b : Bool) → p a ≡ b → (a + 1 ≤ n → 1 ≤ length (filter p (range_with_len (a + 1) k)))
        → 1 ≤ length (if b then a ∷ filter p (range_with_len (a + 1) k) else filter p (range_with_len (a + 1) k))
    go true at rest = omega arith
    go false at rest = elim (cases_eq a n) [
      | inl same ↦ (let both : p n ≡ false = rw (← same) at in absurd (grind (arith, is, both)))
      | inr other ↦ (let above : a + 1 ≤ n = grind (arith, nat_tests, other, low) in rest above)
    ]

rising-most : (p : ℕ → Bool) (xs : List ℕ) → length (filter p xs) ≤ length xs
rising-most p [] = grind arith
rising-most p (x ∷ xs) = (let rest = rising-most p xs in grind (arith, rest))

-- ---- the parts

-- a node that holds the key of the first operation of a script holds one of its keys
first-key :
    (ps : List (List NodeId)) (ops : List Op) (n : NodeId) (o : Op)
    → 1 ≤ length ops → o ≡ slice_index_or ops 0 o → holds ps n (key_of o) ≡ true
    → list_any (holds ps n) (keys_of ops) ≡ true
first-key ps [] n o some first is = absurd (grind (arith, some))
first-key ps (x ∷ ops) n o some first is =
    (let here : holds ps n (key_of x) ≡ true = ap (λ y. holds ps n (key_of y)) (sym first) ∙ is in rw here refl)

rises : IsStrictlyIncreasing (range_with_len 1 16)
rises = λ k within.
    let here = get_or-range_with_len 1 16 k 0 (omega (arith, within)) in
    let next = get_or-range_with_len 1 16 (k + 1) 0 within in
    rw (here, next) (omega arith)

pub are-parts :
    (ps : List (List NodeId)) (ops : List Op) (n : NodeId) (o : Op)
    → 1 ≤ length ops → o ≡ slice_index_or ops 0 o → holds ps n (key_of o) ≡ true → 1 ≤ n → n ≤ 16
    → AreParts (parts ps (keys_of ops))
are-parts ps ops n o some first is low high =
    let p : ℕ → Bool = λ m. list_any (holds ps m) (keys_of ops) in
    let all : length (range_with_len 1 16) ≡ 16 = refl in
    record {
      some = passes p n 1 16 (first-key ps ops n o some first is) low (omega (arith, high));
      most = subst (λ (m : ℕ). length (filter p (range_with_len 1 16)) ≤ m) all (rising-most p (range_with_len 1 16));
      rising = IsStrictlyIncreasing-filter p (range_with_len 1 16) rises;
    }

-- the parts of the same places and operations
pub told-parts :
    (c : ClusterData) (x : Open) (places : List (List NodeId)) (ops : List Op) (keys : List Key) (nodes : List NodeId)
    → places ≡ c.places → ops ≡ x.script.ops → keys ≡ keys_of ops → nodes ≡ parts places keys → nodes ≡ parts_now c x
told-parts c x places ops keys nodes p o k n = n ∙ (λ i. parts (p i) ((k ∙ ap keys_of o) i))

pub told-are :
    (places : List (List NodeId)) (ops : List Op) (keys : List Key) (nodes : List NodeId)
    → keys ≡ keys_of ops → nodes ≡ parts places keys → AreParts (parts places (keys_of ops)) → AreParts nodes
told-are places ops keys nodes k n are = subst AreParts (sym (n ∙ ap (parts places) k)) are
