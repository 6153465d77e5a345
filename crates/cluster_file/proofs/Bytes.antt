-- How lines of words lie in the bytes of a document.
use Rattle.std.proofs.Common.{◌≡◌, ℕ, ◌+◌, ◌%◌, ◌^◌, ◌<◌, ◌≤◌, ◌==◌, ◌&&◌, nat_le, not, Bool, true, false, List, [], ◌∷◌, ◌++◌, length, map, refl, ap, ◌∙◌, append_assoc, arith}
use Rattle.std.specs.Prelude.{All}
use Rattle.std.specs.Fmt.{decimal}
use Rattle.std.specs.List.{list_all, flat_map, join_with_byte, slice_split}
use Rattle.std.proofs.lemmas.Fmt.{decimal_by_steps}
use Rattle.std.proofs.lemmas.Bool.{ne_eqb, and_parts}
use Rattle.std.proofs.lemmas.Bool.Decides.{nat_tests}
use Rattle.std.proofs.lemmas.List.Elements.{All-cons, All-nil}
use Rattle.std.proofs.lemmas.List.Folds.{list_all-append}
use Rattle.std.proofs.lemmas.List.Splits.{slice_split_none, slice_split_at}
use Rattle.score_base.specs.Keys.{is_key, is_key_byte, is_digit}
use Rattle.script_lang.specs.Words.{is_printed}
use Rattle.cluster_file.specs.Spelling.{line}
use Rattle.cluster_file.proofs.Named.{all_last}

-- a byte that may stand in a word
abbrev pub is_plain : ℕ → Bool
is_plain b = nat_le 33 b && nat_le b 126

-- words of such bytes
abbrev pub are_plain : List (List ℕ) → Bool
are_plain ws = list_all (list_all is_plain) ws

-- a line of at least one such word
abbrev pub is_line : List (List ℕ) → Bool
is_line ws = nat_le 1 (length ws) && are_plain ws

-- The words of a spelling.

plain_digit : (n : ℕ) → n < 10 → is_plain (48 + n) ≡ true
plain_digit n h =
    let low : nat_le 33 (48 + n) ≡ true = grind (arith, nat_tests) in
    let high : nat_le (48 + n) 126 ≡ true = grind (arith, nat_tests, h) in
    rw (low, high) refl

pub plain_decimal : (n : ℕ) → n < 2 ^ 64 → list_all is_plain (decimal n) ≡ true
plain_decimal = decimal_by_steps (λ n ds. list_all is_plain ds ≡ true) (λ n h. rw (plain_digit n h) refl) (λ n ds h k. all_last is_plain ds (48 + n % 10) k (plain_digit (n % 10) (omega arith)))

plain_key_byte : (b : ℕ) → is_key_byte b ≡ true → is_plain b ≡ true
plain_key_byte b h =
    let low : nat_le 33 b ≡ true = grind (arith, nat_tests, h) in
    let high : nat_le b 126 ≡ true = grind (arith, nat_tests, h) in
    rw (low, high) refl

plain_key_bytes : (bs : List ℕ) → list_all is_key_byte bs ≡ true → list_all is_plain bs ≡ true
plain_key_bytes [] h = refl
plain_key_bytes (b ∷ bs) h =
    let both = and_parts (is_key_byte b) (list_all is_key_byte bs) h in
    rw (plain_key_byte b both.0, plain_key_bytes bs both.1) refl

pub plain_key : (k : List ℕ) → is_key k ≡ true → list_all is_plain k ≡ true
plain_key [] h = cc
plain_key (b ∷ bs) h =
    let a = and_parts (not (is_digit b) && is_key_byte b && nat_le (length bs) 31) (list_all is_key_byte bs) h in
    let c = and_parts (not (is_digit b) && is_key_byte b) (nat_le (length bs) 31) a.0 in
    let e = and_parts (not (is_digit b)) (is_key_byte b) c.0 in
    rw (plain_key_byte b e.1, plain_key_bytes bs a.1) refl

-- Bytes in words and lines.

not_there : (c b : ℕ) → (c < 33) → is_plain b ≡ true → (b == c) ≡ false
not_there c b small h =
    let low : 33 ≤ b = grind (arith, nat_tests, (and_parts (nat_le 33 b) (nat_le b 126) h).0) in
    ne_eqb b c (λ e. omega (arith, e, low, small))

none_there : (c : ℕ) → c < 33 → (w : List ℕ) → list_all is_plain w ≡ true → All (λ b. (b == c) ≡ false) w
none_there c small [] h = All-nil (λ x. (x == c) ≡ false)
none_there c small (b ∷ bs) h =
    let both = and_parts (is_plain b) (list_all is_plain bs) h in
    All-cons (λ x. (x == c) ≡ false) b bs (not_there c b small both.0) (none_there c small bs both.1)

-- a line is cut into its words
pub words_again : (w : List ℕ) (ws : List (List ℕ)) → are_plain (w ∷ ws) ≡ true
    → slice_split (λ b. b == 32) (join_with_byte 32 (w ∷ ws)) ≡ w ∷ ws
words_again w [] h = slice_split_none _ w (none_there 32 (omega arith) w (and_parts (list_all is_plain w) true h).0)
words_again w (v ∷ ws) h =
    let both = and_parts (list_all is_plain w) (are_plain (v ∷ ws)) h in
    slice_split_at _ w 32 (join_with_byte 32 (v ∷ ws)) (none_there 32 (omega arith) w both.0) refl ∙ ap (λ l. w ∷ l) (words_again v ws both.1)

printed_plain : (w : List ℕ) → list_all is_plain w ≡ true → list_all is_printed w ≡ true
printed_plain [] h = refl
printed_plain (b ∷ bs) h =
    let both = and_parts (is_plain b) (list_all is_plain bs) h in
    let ends = and_parts (nat_le 33 b) (nat_le b 126) both.0 in
    let low : nat_le 32 b ≡ true = grind (arith, nat_tests, ends.0) in
    rw (low, ends.1, printed_plain bs both.1) refl

-- its bytes are printed
pub printed_words : (ws : List (List ℕ)) → are_plain ws ≡ true → list_all is_printed (join_with_byte 32 ws) ≡ true
printed_words [] h = refl
printed_words (w ∷ []) h = printed_plain w (and_parts (list_all is_plain w) true h).0
printed_words (w ∷ v ∷ ws) h =
    let both = and_parts (list_all is_plain w) (are_plain (v ∷ ws)) h in
    rw (list_all-append, printed_plain w both.0, printed_words (v ∷ ws) both.1) refl

unfed : (x : List ℕ) → list_all is_printed x ≡ true → All (λ b. (b == 10) ≡ false) x
unfed [] h = All-nil (λ x. (x == 10) ≡ false)
unfed (b ∷ bs) h =
    let both = and_parts (is_printed b) (list_all is_printed bs) h in
    let low : 32 ≤ b = grind (arith, nat_tests, (and_parts (nat_le 32 b) (nat_le b 126) both.0).0) in
    All-cons (λ x. (x == 10) ≡ false) b bs (ne_eqb b 10 (λ e. omega (arith, e, low))) (unfed bs both.1)

-- the lines of a spelling, and the empty piece behind the last line feed
pub lines_again : (ls : List (List (List ℕ))) → list_all is_line ls ≡ true
    → slice_split (λ b. b == 10) (flat_map line ls) ≡ map (join_with_byte 32) ls ++ [] ∷ []
lines_again [] h = refl
lines_again (ws ∷ ls) h =
    let both = and_parts (is_line ws) (list_all is_line ls) h in
    let plain = (and_parts (nat_le 1 (length ws)) (are_plain ws) both.0).1 in
    ap (slice_split (λ b. b == 10)) (append_assoc (join_with_byte 32 ws) (10 ∷ []) (flat_map line ls))
    ∙ slice_split_at _ (join_with_byte 32 ws) 10 (flat_map line ls) (unfed (join_with_byte 32 ws) (printed_words ws plain)) refl
    ∙ ap (λ l. join_with_byte 32 ws ∷ l) (lines_again ls both.1)
