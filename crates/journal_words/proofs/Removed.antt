-- What taking out the pairs of a transaction leaves, in either order.
use Rattle.std.proofs.Common.{◌≡◌, ℕ, ◌==◌, not, List, [], ◌∷◌, ◌++◌, reverse, sym, ◌∙◌, filter, arith, refl, Bool, true, false, if◌then◌else◌}
use Rattle.std.proofs.lemmas.List.{append-nil}
use Rattle.std.proofs.lemmas.Bool.Decides.{nat_tests}
use Rattle.std.proofs.lemmas.Grind.{reverse_onto}
use Rattle.journal_words.specs.Journals.{without}

without-append : (t : ℕ) (xs ys : List (ℕ × ℕ)) → without t (xs ++ ys) ≡ without t xs ++ without t ys
without-append t [] ys = refl
without-append t (x ∷ xs) ys = grind (arith, nat_tests, without-append t xs ys)

pub without-reverse : (t : ℕ) (xs : List (ℕ × ℕ)) → without t (reverse xs) ≡ reverse (filter (λ x. not (x.0 == t)) xs)
without-reverse t [] = refl
without-reverse t (x ∷ xs) = rw (reverse_onto xs x []) (without-append t (reverse xs) (x ∷ []) ∙ rw (without-reverse t xs) (go (x.0 == t)))
  where
    go : (b : Bool) → reverse (filter (λ y. not (y.0 == t)) xs) ++ (if b then [] else x ∷ [])
        ≡ reverse (if not b then x ∷ filter (λ y. not (y.0 == t)) xs else filter (λ y. not (y.0 == t)) xs)
    go true = append-nil _
    go false = sym (reverse_onto (filter (λ y. not (y.0 == t)) xs) x [])
