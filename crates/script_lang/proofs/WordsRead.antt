-- How the words of a line that were read are spelled: numbers, keys, transactions, nodes.
use Rattle.std.proofs.Common.{◌≡◌, ℕ, ◌<◌, ◌^◌, lit<, ◌==◌, ◌&&◌, nat_le, true, List, [], ◌∷◌, Option, Some, None, Ok, IfOk, refl, ap, ◌∙◌, arith}
use Rattle.std.specs.Fmt.{decimal}
use Rattle.std.proofs.lemmas.Bool.{and_parts}
use Rattle.std.proofs.lemmas.Bool.Decides.{nat_tests}
use Rattle.score_base.specs.Keys.{is_key}
use Rattle.score_base.specs.Numbers.{number, digits_from}
use Rattle.score_base.proofs.Spelling.{decimal-number, plain, said}
use Rattle.script_lang.specs.Reading.{◌>>=◌, word_at, end_at, or_why, number_at, in_range}
use Rattle.script_lang.specs.Words.{node_in, node_of, key_of, tx_in, tx_of}
use Rattle.script_lang.proofs.Readings.{either}
use Rattle.script_lang.specs.declared.whys.Why.TheVariants as why
use Rattle.script_lang.specs.declared.limits.TheConstants.{MAX_TX}

-- a number that was read is one of 64 bits
pub number_small : (w : List ℕ) (n : ℕ) → number w ≡ Some n → n < 2 ^ 64
number_small [] n e = cc
number_small (b ∷ bs) n e = (said 0 (b ∷ bs) n (lit< tt) (plain b bs (digits_from 0 (b ∷ bs)) n e).0).2

pub word_read : (ws : List (List ℕ)) → IfOk (word_at ws) (λ x. ws ≡ x.0 ∷ x.1)
word_read [] = tt
word_read (w ∷ ws) = refl

pub end_read : (ws : List (List ℕ)) → IfOk (end_at ws) (λ _. ws ≡ [])
end_read [] = refl
end_read (w ∷ ws) = tt

pub number_read : (ws : List (List ℕ)) → IfOk (number_at ws) (λ x. (ws ≡ decimal x.0 ∷ x.1) × (x.0 < 2 ^ 64))
unfolding number_at
number_read [] = tt
number_read (w ∷ ws) = by (number w) refl
  where
    by : (o : Option ℕ) → number w ≡ o → IfOk {T = ℕ × List (List ℕ)} (or_why why.Number o >>= λ n. Ok (n, ws))
        (λ x. (w ∷ ws ≡ decimal x.0 ∷ x.1) × (x.0 < 2 ^ 64))
    by None e = tt
    by (Some n) e = (ap (λ v. v ∷ ws) (decimal-number w n e), number_small w n e)

pub in_range_read : (low high n : ℕ)
    → IfOk (in_range low high n) (λ m. (m ≡ n) × (nat_le low m ≡ true) × (nat_le m high ≡ true))
in_range_read low high n = either (nat_le low n && nat_le n high) _ _ _ (λ e. let both = and_parts (nat_le low n) (nat_le n high) e in (refl, both.0, both.1)) (λ _. tt)

pub key_read : (w : List ℕ) → IfOk (key_of w) (λ k. (w ≡ k) × (is_key k ≡ true))
key_read w = either (is_key w) _ _ _ (λ e. (refl, e)) (λ _. tt)

pub tx_read : (w : List ℕ) → IfOk (tx_of w) (λ t. (w ≡ decimal t) × ((nat_le 1 t && nat_le t MAX_TX) ≡ true))
tx_read w = by (number w) refl
  where
    by : (o : Option ℕ) → number w ≡ o
        → IfOk (tx_in o) (λ t. (w ≡ decimal t) × ((nat_le 1 t && nat_le t MAX_TX) ≡ true))
    by None e = tt
    by (Some t) e = either (nat_le 1 t && nat_le t MAX_TX) _ _ _ (λ g. (decimal-number w t e, g)) (λ _. tt)

pub node_read : (nodes : ℕ) (w : List ℕ)
    → IfOk (node_of nodes w) (λ n. (w ≡ 110 ∷ decimal n) × ((nat_le 1 n && nat_le n nodes) ≡ true))
node_read nodes [] = tt
node_read nodes (b ∷ bs) = either (b == 110) _ _ _ (λ e. by (grind (arith, nat_tests, e)) (number bs) refl) (λ _. tt)
  where
    by : b ≡ 110 → (o : Option ℕ) → number bs ≡ o
        → IfOk (node_in nodes o) (λ n. (b ∷ bs ≡ 110 ∷ decimal n) × ((nat_le 1 n && nat_le n nodes) ≡ true))
    by first None e = tt
    by first (Some n) e = either (nat_le 1 n && nat_le n nodes) _ _ _ (λ g. (ap (λ (c : ℕ). c ∷ bs) first ∙ ap (λ ds. 110 ∷ ds) (decimal-number bs n e), g)) (λ _. tt)
