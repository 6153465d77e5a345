-- The least transaction that passes a test: of two tests together, and along the locks on one key.
use Rattle.std.proofs.Common.{◌≡◌, ◌≢◌, ℕ, ◌≤◌, Bool, true, false, ◌&&◌, ◌||◌, List, [], ◌∷◌, Option, Some, None, min, ◌⊎◌, inl, inr, refl, sym, ap, ◌∙◌, nat_eq, arith}
use Rattle.std.specs.Prelude.{MatchOption}
use Rattle.std.specs.Cmp.Lexicographic.{pointwise}
use Rattle.std.proofs.lemmas.Bool.{cases_lt, eqb-true}
use Rattle.lock_table.specs.Table.{IsLeastOther}

pub one_of : (a b : Bool) → (a || b) ≡ true → (a ≡ true) ⊎ (b ≡ true)
one_of true b e = inl refl
one_of false b e = inr e

pub both_of : (a b : Bool) → (a && b) ≡ true → (a ≡ true) × (b ≡ true)
both_of true b e = (refl, e)
both_of false b e = cc

pub or_later : (a b : Bool) → b ≡ true → (a || b) ≡ true
or_later true b e = refl
or_later false b e = e

pub or_first : (a b : Bool) → a ≡ true → (a || b) ≡ true
or_first a b e = ap (λ x. x || b) e

pub same_key : (x y : List ℕ) → pointwise nat_eq x y ≡ true → x ≡ y
same_key [] [] is = refl
same_key [] (y ∷ ys) is = cc
same_key (x ∷ xs) [] is = cc
same_key (x ∷ xs) (y ∷ ys) is =
    let h = both_of (nat_eq x y) (pointwise nat_eq xs ys) is in
    let first : x ≡ y = eqb-true x y h.0 in
    let rest : xs ≡ ys = same_key xs ys h.1 in
    cc

-- the lesser of two transactions, each of which may be missing
abbrev pub IsLesser : Option ℕ → Option ℕ → Option ℕ → Type 0
IsLesser a b r = MatchOption a (r ≡ b) (λ u. MatchOption b (r ≡ a) (λ v. r ≡ Some (min u v)))

-- the least that passes one of two tests
pub least_of_both : (f g h : ℕ → Bool) (t : ℕ) (a b r : Option ℕ) → ((u : ℕ) → h u ≡ (f u || g u)) → IsLesser a b r
    → IsLeastOther f t a → IsLeastOther g t b → IsLeastOther h t r
least_of_both f g h t None None r both is no_f no_g =
    rw is (λ u other passes. elim (one_of (f u) (g u) (sym (both u) ∙ passes)) [
      | inl x ↦ no_f u other x
      | inr x ↦ no_g u other x
    ])
least_of_both f g h t None (Some q) r both is no_f least =
    rw is record {
      other = least.other;
      passes = both q ∙ or_later (f q) (g q) least.passes;
      least = λ v other passes. elim (one_of (f v) (g v) (sym (both v) ∙ passes)) [
        | inl x ↦ absurd (no_f v other x)
        | inr x ↦ least.least v other x
      ];
    }
least_of_both f g h t (Some p) None r both is least no_g =
    rw is record {
      other = least.other;
      passes = both p ∙ or_first (f p) (g p) least.passes;
      least = λ v other passes. elim (one_of (f v) (g v) (sym (both v) ∙ passes)) [
        | inl x ↦ least.least v other x
        | inr x ↦ absurd (no_g v other x)
      ];
    }
least_of_both f g h t (Some p) (Some q) r both is first second =
    let low : (v : ℕ) → v ≢ t → h v ≡ true → min p q ≤ v = λ v other passes. elim
    (one_of (f v) (g v) (sym (both v) ∙ passes)) [
      | inl x ↦ omega (arith, first.least v other x)
      | inr x ↦ omega (arith, second.least v other x)
    ] in
    elim (cases_lt p q) [
      | inl less ↦
          let same : min p q ≡ p = omega (arith, less) in
          rw (is ∙ ap Some same) record {
            other = first.other;
            passes = both p ∙ or_first (f p) (g p) first.passes;
            least = λ v other passes. omega (arith, same, low v other passes);
          }
      | inr less ↦
          let same : min p q ≡ q = omega (arith, less) in
          rw (is ∙ ap Some same) record {
            other = second.other;
            passes = both q ∙ or_later (f q) (g q) second.passes;
            least = λ v other passes. omega (arith, same, low v other passes);
          }
    ]

-- a test that says the same
pub least_same : (f g : ℕ → Bool) (t : ℕ) (a : Option ℕ) → ((u : ℕ) → f u ≡ g u) → IsLeastOther f t a
    → IsLeastOther g t a
least_same f g t None same none = λ u other passes. none u other (same u ∙ passes)
least_same f g t (Some p) same least = record {
  other = least.other;
  passes = sym (same p) ∙ least.passes;
  least = λ v other passes. least.least v other (same v ∙ passes);
}
