-- How an atom that was read is spelled, and that its spelling is read as it.
use Rattle.std.proofs.Common.{◌≡◌, ℕ, ◌+◌, ◌-◌, ◌*◌, ◌<◌, ◌^◌, ◌&&◌, not, nat_le, nat_lt, Bool, true, false, cond, List, [], ◌∷◌, length, Option, Some, None, Ok, IfOk, refl, arith}
use Rattle.std.specs.Char.{is_ascii_digit}
use Rattle.std.specs.Fmt.{decimal}
use Rattle.std.specs.List.{list_all}
use Rattle.std.proofs.lemmas.Bool.{and_parts, not-true}
use Rattle.std.proofs.lemmas.Bool.Decides.{nat_tests}
use Rattle.score_base.specs.declared.keys.Key.{Key}
use Rattle.score_base.specs.Keys.{is_key, is_digit, is_key_byte}
use Rattle.score_base.specs.Numbers.{number, digits_from}
use Rattle.score_base.proofs.Spelling.{decimal-number, number-decimal, plain as no_zero_first}
use Rattle.script_lang.specs.declared.exprs.Atom.{Atom}
use Rattle.script_lang.specs.declared.exprs.Atom.TheVariants as atom
use Rattle.script_lang.specs.Exprs.{is_atom_among}
use Rattle.script_lang.specs.Reads.{is_key_among}
use Rattle.script_lang.specs.Reading.{◌>>=◌, or_why}
use Rattle.script_lang.specs.Words.{key_of, begins_with_digit}
use Rattle.script_lang.specs.ExprWords.{number_atom, key_atom, atom_of}
use Rattle.script_lang.specs.Spelling.{atom_word, is_plain_atom}
use Rattle.script_lang.proofs.Readings.{behind, either}
use Rattle.script_lang.proofs.WordsRead.{number_small, key_read}
use Rattle.script_lang.specs.declared.whys.Why.TheVariants as why

-- the word spells the atom, over the known keys
pub record IsAtomOf (known : List Key) (w : List ℕ) (a : Atom) : Type 0 where
  pub spelled : w ≡ atom_word a
  pub among : is_atom_among known a ≡ true
  pub plain : is_plain_atom a ≡ true

number_atom_read : (known : List Key) (w : List ℕ) → IfOk (number_atom w) (IsAtomOf known w)
unfolding number_atom
number_atom_read known w = by (number w) refl
  where
    by : (o : Option ℕ) → number w ≡ o → IfOk (or_why why.Number o >>= λ n. Ok (atom.Number n)) (IsAtomOf known w)
    by None e = tt
    by (Some n) e = record { spelled = decimal-number w n e; among = refl; plain = grind (arith, nat_tests, number_small w n e) }

key_atom_read : (known : List Key) (w : List ℕ) → IfOk (key_atom known w) (IsAtomOf known w)
unfolding key_atom
key_atom_read known w = behind (key_of w) _ _ _ (key_read w) (λ k h. either (is_key_among k known) _ _ _ (λ e. record { spelled = h.0; among = e; plain = h.1 }) (λ _. tt))

pub atom_read : (known : List Key) (w : List ℕ) → IfOk (atom_of known w) (IsAtomOf known w)
unfolding atom_of
atom_read known w = either (begins_with_digit w) (number_atom w) (key_atom known w) (IsAtomOf known w) (λ e. number_atom_read known w) (λ e. key_atom_read known w)

is_first : (b : Bool) (x : Option ℕ) (n : ℕ) → cond b x None ≡ Some n → b ≡ true
is_first true x n e = refl
is_first false x n e = cc

number_first : (w : List ℕ) (n : ℕ) → number w ≡ Some n → begins_with_digit w ≡ true
number_first [] n e = cc
number_first (b ∷ bs) n e =
    let first = is_first (is_ascii_digit b && nat_lt (10 * 0 + (b - 48)) (2 ^ 64)) (digits_from (10 * 0 + (b - 48)) bs) n (no_zero_first b bs (digits_from 0 (b ∷ bs)) n e).0 in
    (and_parts (is_ascii_digit b) (nat_lt (10 * 0 + (b - 48)) (2 ^ 64)) first).0

key_first : (k : Key) → is_key k ≡ true → begins_with_digit k ≡ false
key_first [] e = cc
key_first (b ∷ bs) e = not-true (is_digit b) (first (not (is_digit b)) (is_key_byte b) (nat_le (length bs) 31) (list_all is_key_byte bs) e)
  where
    first : (p q r t : Bool) → (p && q && r && t) ≡ true → p ≡ true
    first true q r t h = refl
    first false q r t h = cc

pub atom_again : (known : List Key) (a : Atom) → is_atom_among known a ≡ true → is_plain_atom a ≡ true
    → atom_of known (atom_word a) ≡ Ok a
unfolding atom_of number_atom key_atom
atom_again known (atom.Number v) among plain =
    let small : v < 2 ^ 64 = grind (arith, nat_tests, plain) in
    let read = number-decimal v small in
    rw (number_first (decimal v) v read, read) refl
atom_again known (atom.Key k) among plain = rw (key_first k plain, plain, among) refl
