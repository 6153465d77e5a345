-- Each number below 2^64 is spelled by its decimal digits and by nothing else.
use Rattle.std.proofs.Common.{◌≡◌, ℕ, ◌+◌, ◌-◌, ◌*◌, ◌^◌, ◌<◌, ◌≤◌, ◌==◌, ◌&&◌, not, nat_lt, Bool, true, false, List, [], ◌∷◌, length, Option, Some, None, cond, refl, sym, ap, ◌∙◌, arith, inl, inr, rules, get_or, lit<}
use Rattle.std.specs.Str.{all_ascii_digits}
use Rattle.std.specs.Char.{is_ascii_digit}
use Rattle.std.specs.Fmt.{decimal}
use Rattle.std.proofs.lemmas.Grind.{common_steps}
use Rattle.std.proofs.lemmas.Bool.{cases_lt}
use Rattle.std.proofs.lemmas.Bool.Decides.{eqb_tells}
use Rattle.std.proofs.lemmas.Fmt.{decimal-digits_value, digits_value-decimal, digits_decimal, first_decimal, decimal_nonempty, decimal_digit}
use Rattle.std.proofs.lemmas.Str.Parse.{IsNumeralModel, numerals_by_fold}
use Rattle.score_base.specs.Numbers.{digits_from, number}

-- what these digits say behind those that say n, however great
abbrev pub read_on : ℕ → List ℕ → ℕ
read_on n [] = n
read_on n (c ∷ cs) = read_on (10 * n + (c - 48)) cs

own : IsNumeralModel (λ ds. all_ascii_digits ds ≡ true) (read_on 0)
own = numerals_by_fold _ (search rules) read_on (search rules)

grows : (n : ℕ) (ds : List ℕ) → n ≤ read_on n ds
grows n [] = omega arith
grows n (c ∷ cs) = omega (arith, grows (10 * n + (c - 48)) cs)

chosen : {X : Type 0} (b : Bool) (x : Option X) (y : X) → cond b x None ≡ Some y → (b ≡ true) × (x ≡ Some y)
chosen true x y e = (refl, e)
chosen false x y e = cc

parts : (a b : Bool) → (a && b) ≡ true → (a ≡ true) × (b ≡ true)
parts true b e = (refl, e)
parts false b e = cc

pub said : (n : ℕ) (ds : List ℕ) (m : ℕ) → n < 2 ^ 64 → digits_from n ds ≡ Some m
    → (all_ascii_digits ds ≡ true) × (read_on n ds ≡ m) × (m < 2 ^ 64)
said n [] m h e = let same : n ≡ m = cc in (refl, same, omega (arith, same, h))
said n (c ∷ cs) m h e =
    let one = chosen (is_ascii_digit c && nat_lt (10 * n + (c - 48)) (2 ^ 64)) (digits_from (10 * n + (c - 48)) cs) m e in
    let two = parts (is_ascii_digit c) (nat_lt (10 * n + (c - 48)) (2 ^ 64)) one.0 in
    let rest = said (10 * n + (c - 48)) cs m (grind (arith, common_steps, two.1)) one.1 in
    (rw two.0 rest.0, rest.1, rest.2)

pub told : (n : ℕ) (ds : List ℕ) → all_ascii_digits ds ≡ true → read_on n ds < 2 ^ 64
    → digits_from n ds ≡ Some (read_on n ds)
told n [] d h = refl
told n (c ∷ cs) d h =
    let two = parts (is_ascii_digit c) (all_ascii_digits cs) d in
    let small : nat_lt (10 * n + (c - 48)) (2 ^ 64) ≡ true = grind (arith, common_steps, grows (10 * n + (c - 48)) cs) in
    rw (two.0, small) (told (10 * n + (c - 48)) cs two.1 h)

-- no zero in front of others
pub plain : (b : ℕ) (bs : List ℕ) (x : Option ℕ) (n : ℕ) → cond ((b == 48) && not (length bs == 0)) None x ≡ Some n
    → (x ≡ Some n) × (b ≡ 48 → length bs ≡ 0)
plain b bs x n e = elim (eqb_tells b 48) [
  | inl p ↦ elim (eqb_tells (length bs) 0) [
    | inl q ↦ (rw (p.0, q.0) at e, λ _. q.1)
    | inr q ↦ let bad : None ≡ Some n = (rw (p.0, q.0) at e) in cc
  ]
  | inr p ↦ (rw p.0 at e, λ z. absurd (p.1 z))
]

pub decimal-number : (w : List ℕ) (n : ℕ) → number w ≡ Some n → w ≡ decimal n
decimal-number [] n e = cc
decimal-number (b ∷ bs) n e =
    let p = plain b bs (digits_from 0 (b ∷ bs)) n e in
    let s = said 0 (b ∷ bs) n (lit< tt) p.0 in
    sym (decimal-digits_value own (b ∷ bs) s.0 (omega arith) (λ zero_first. omega (arith, p.1 zero_first)) (omega (arith, s.1, s.2))) ∙ ap decimal s.1

again : (w : List ℕ) (n : ℕ) → all_ascii_digits w ≡ true → 0 < length w → read_on 0 w ≡ n → n < 2 ^ 64
    → (get_or w 0 0 ≡ 48 → length w ≡ 1) → number w ≡ Some n
again [] n d some v h lead = absurd (omega (arith, some))
again (b ∷ bs) n d some v h lead =
    let read : digits_from 0 (b ∷ bs) ≡ Some n = told 0 (b ∷ bs) d (omega (arith, v, h)) ∙ ap Some v in
    elim (eqb_tells b 48) [
      | inl p ↦ let short : length bs ≡ 0 = omega (arith, lead p.1) in rw (p.0, short) read
      | inr p ↦ rw p.0 read
    ]

lead : (n : ℕ) → n < 2 ^ 64 → get_or (decimal n) 0 0 ≡ 48 → length (decimal n) ≡ 1
lead n h e = elim (cases_lt 0 n) [
  | inl more ↦ absurd (omega (arith, first_decimal n more h, e))
  | inr none ↦ let same : n ≡ 0 = omega (arith, none) in ap (λ m. length (decimal m)) same ∙ ap length (decimal_digit 0 (lit< tt))
]

pub number-decimal : (n : ℕ) → n < 2 ^ 64 → number (decimal n) ≡ Some n
number-decimal n h = again (decimal n) n (digits_decimal own n h) (decimal_nonempty n h) (digits_value-decimal own n h) h (lead n h)
