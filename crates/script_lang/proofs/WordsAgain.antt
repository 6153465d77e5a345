-- Words that spell a number, a node, a key or a transaction are read as it.
use Rattle.std.proofs.Common.{◌≡◌, ℕ, ◌<◌, ◌≤◌, ◌^◌, ◌&&◌, nat_le, true, false, Bool, cond, List, ◌∷◌, Result, Ok, refl, ap, ◌∙◌, arith}
use Rattle.std.specs.Fmt.{decimal}
use Rattle.std.proofs.lemmas.Bool.{and_parts}
use Rattle.std.proofs.lemmas.Bool.Decides.{nat_tests}
use Rattle.score_base.specs.Keys.{is_key}
use Rattle.score_base.proofs.Spelling.{number-decimal}
use Rattle.script_lang.specs.declared.limits.TheConstants.{MAX_TX}
use Rattle.script_lang.specs.declared.whys.Why.{Why}
use Rattle.script_lang.specs.Reading.{◌>>=◌, number_at, in_range}
use Rattle.script_lang.specs.Words.{node_of, key_of, tx_of}

-- one reader behind another
pub goes : {A B : Type 0} (m : Result A Why) (f : A → Result B Why) (x : A) (r : Result B Why) → m ≡ Ok x → f x ≡ r
    → (m >>= f) ≡ r
goes m f x r h k = ap (λ n. n >>= f) h ∙ k

-- a limit that is not reached
pub passes : {A : Type 0} (b : Bool) (x y r : A) → b ≡ false → y ≡ r → cond b x y ≡ r
passes b x y r h k = ap (λ c. cond c x y) h ∙ k

pub number_again : (n : ℕ) (ws : List (List ℕ)) → n < 2 ^ 64 → number_at (decimal n ∷ ws) ≡ Ok (n, ws)
unfolding number_at
number_again n ws h = rw (number-decimal n h) refl

pub within_again : (low high n : ℕ) → nat_le low n ≡ true → nat_le n high ≡ true → in_range low high n ≡ Ok n
within_again low high n h k = rw (h, k) refl

pub small : (n high : ℕ) → nat_le n high ≡ true → high ≤ 4294967295 → n < 2 ^ 64
small n high h k =
    let most : n ≤ high = grind (arith, nat_tests, h) in
    omega (arith, most, k)

-- a node of the cluster
pub node_of_again : (nodes n : ℕ) → nat_le 1 n ≡ true → nat_le n nodes ≡ true → n < 2 ^ 64
    → node_of nodes (110 ∷ decimal n) ≡ Ok n
node_of_again nodes n least most low = rw (number-decimal n low, least, most) refl

pub key_again : (k : List ℕ) → is_key k ≡ true → key_of k ≡ Ok k
key_again k h = rw h refl

pub tx_again : (t : ℕ) → (nat_le 1 t && nat_le t MAX_TX) ≡ true → tx_of (decimal t) ≡ Ok t
tx_again t h =
    let both = and_parts (nat_le 1 t) (nat_le t MAX_TX) h in
    rw (number-decimal t (small t MAX_TX both.1 (omega arith)), both.0, both.1) refl
