-- What is read first was spelled so, and what is spelled so is read first, whatever follows: numbers and keys.
use Rattle.std.proofs.Common.{◌≡◌, ℕ, suc, ◌+◌, ◌^◌, ◌<◌, ◌≤◌, ◌&&◌, Bool, true, false, cond, eqb, ltb, leb, List, [], ◌∷◌, ◌++◌, length, get_or, take, drop, Option, Some, None, refl, sym, ap, subst, ◌∙◌, append_assoc, arith, inl, inr}
use Rattle.std.specs.Int.{w16, w64, from_be_bytes, to_be_bytes}
use Rattle.std.proofs.lemmas.Bool.{cases_lt, ltb-false, le-ltb, leb-true, le-leb, ne_eqb, eqb-false, and_parts}
use Rattle.std.proofs.lemmas.Option.{cond_some}
use Rattle.std.proofs.lemmas.List.{take_at, drop_at, take-append-drop, length-append, length-take, get_or-drop, get_or-take, get_or_past}
use Rattle.std.proofs.lemmas.Nat.{be_bytes_2, be_bytes_8, from_be_bytes-to_be_bytes_2, from_be_bytes-to_be_bytes_8}
use Rattle.score_base.specs.Keys.{is_key}
use Rattle.score_fields.specs.Spelling.{IsBytes, two_bytes, eight_bytes, key_bytes, IsTx, IsKey, IsWrite, write_bytes}
use Rattle.score_fields.specs.Reading.{◌>>=◌, first_within, first_two, first_tx, first_eight, first_text, first_key, first_write}

-- the two ways of one spelling
pub record IsCodec {A : Type 0} (Is : A → Type 0) (bytes_of : A → List ℕ) (first : List ℕ → Option (A × List ℕ)) : Type
    0 where
  pub again : (a : A) (rest : List ℕ) → Is a → first (bytes_of a ++ rest) ≡ Some (a, rest)
  pub takes : (bytes : List ℕ) (a : A) (rest : List ℕ) → IsBytes bytes → first bytes ≡ Some (a, rest)
      → Is a × (bytes ≡ bytes_of a ++ rest)

-- ---- bytes

pub IsBytes-drop : (n : ℕ) (bytes : List ℕ) → IsBytes bytes → IsBytes (drop n bytes)
IsBytes-drop n bytes h i = rw get_or-drop (h (n + i))

pub IsBytes-take : (n : ℕ) (bytes : List ℕ) → IsBytes bytes → IsBytes (take n bytes)
IsBytes-take n bytes h i =
    elim (cases_lt i n) [
      | inl lt ↦ rw (get_or-take n bytes i 0 lt) (h i)
      | inr le ↦ rw (get_or_past (take n bytes) i 0 (omega (arith, length-take n bytes))) (omega arith)
    ]

pub IsBytes-rest : (b : ℕ) (bytes : List ℕ) → IsBytes (b ∷ bytes) → IsBytes bytes
IsBytes-rest b bytes h i = h (suc i)

-- what stands behind the front
pub IsBytes-behind : (front rest bytes : List ℕ) → bytes ≡ front ++ rest → IsBytes bytes → IsBytes rest
IsBytes-behind front rest bytes e h =
    let whole : IsBytes (front ++ rest) = subst IsBytes e h in
    subst IsBytes (drop_at front rest (length front) refl) (IsBytes-drop (length front) (front ++ rest) whole)

-- ---- steps of reading

-- the value of a step that found one
pub bind_some : {A B : Type 0} (o : Option A) (f : A → Option B) (y : B) → (o >>= f) ≡ Some y
    → (x : A) × (o ≡ Some x) × (f x ≡ Some y)
bind_some None f y e = absurd cc
bind_some (Some x) f y e = (x, refl, e)

-- ---- numbers

within_again : (low high n : ℕ) (rest : List ℕ) → (low ≤ n) × (n ≤ high)
    → first_within low high (n ∷ rest) ≡ Some (n, rest)
within_again low high n rest h = rw (le-leb low n h.0, le-leb n high h.1) refl

within_takes : (low high : ℕ) (bytes : List ℕ) (n : ℕ) (rest : List ℕ) → IsBytes bytes
    → first_within low high bytes ≡ Some (n, rest) → ((low ≤ n) × (n ≤ high)) × (bytes ≡ n ∷ rest)
within_takes low high [] n rest fits e = absurd cc
within_takes low high (b ∷ bytes) n rest fits e =
    let g = cond_some (leb low b && leb b high) (b, bytes) (n, rest) e in
    let p = and_parts (leb low b) (leb b high) g.0 in
    let same : b ≡ n = ap (λ (x : ℕ × List ℕ). x.0) g.1 in
    let behind : bytes ≡ rest = ap (λ (x : ℕ × List ℕ). x.1) g.1 in
    ((omega (arith, same, leb-true low b p.0), omega (arith, same, leb-true b high p.1)), cc)

pub codec_within : (low high : ℕ) → IsCodec (λ n. (low ≤ n) × (n ≤ high)) (λ n. n ∷ []) (first_within low high)
codec_within low high = record { again = within_again low high; takes = within_takes low high }

two_again : (n : ℕ) (rest : List ℕ) → n < 2 ^ 16 → first_two (two_bytes n ++ rest) ≡ Some (n, rest)
unfolding two_bytes first_two
two_again n rest lt =
    let long : ltb (length (to_be_bytes w16 n ++ rest)) 2 ≡ false = le-ltb _ _ (omega (arith, length-append (to_be_bytes w16 n) rest)) in
    rw long (ap (λ (m : ℕ). Some (m, rest)) (from_be_bytes-to_be_bytes_2 n lt))

front_fits : (n : ℕ) (bytes : List ℕ) → IsBytes bytes → (i : ℕ) → get_or (take n bytes) i 0 < 256
front_fits n bytes fits i = omega (arith, IsBytes-take n bytes fits i)

below_two : (bytes : List ℕ) → ((i : ℕ) → get_or bytes i 0 < 256) → from_be_bytes w16 bytes < 2 ^ 16
below_two bytes fits = omega (arith, fits 0, fits 1)

below_eight : (bytes : List ℕ) → ((i : ℕ) → get_or bytes i 0 < 256) → from_be_bytes w64 bytes < 2 ^ 64
below_eight bytes fits = omega (arith, fits 0, fits 1, fits 2, fits 3, fits 4, fits 5, fits 6, fits 7)

guard_some : {A : Type 0} (b : Bool) (x y : A) → cond b None (Some x) ≡ Some y → (b ≡ false) × (x ≡ y)
guard_some true x y e = absurd cc
guard_some false x y e = (refl, cc)

two_takes : (bytes : List ℕ) (n : ℕ) (rest : List ℕ) → IsBytes bytes → first_two bytes ≡ Some (n, rest)
    → (n < 2 ^ 16) × (bytes ≡ two_bytes n ++ rest)
unfolding two_bytes first_two
two_takes bytes n rest fits e =
    let g = guard_some (ltb (length bytes) 2) (from_be_bytes w16 (take 2 bytes), drop 2 bytes) (n, rest) e in
    let long : 2 ≤ length bytes = ltb-false _ _ g.0 in
    let same : from_be_bytes w16 (take 2 bytes) ≡ n = ap (λ (x : ℕ × List ℕ). x.0) g.1 in
    let behind : drop 2 bytes ≡ rest = ap (λ (x : ℕ × List ℕ). x.1) g.1 in
    let front : to_be_bytes w16 n ≡ take 2 bytes = be_bytes_2 (take 2 bytes) n (omega (arith, length-take 2 bytes)) (front_fits 2 bytes fits) (sym same) in
    (omega (arith, same, below_two (take 2 bytes) (front_fits 2 bytes fits)), sym (take-append-drop 2 bytes) ∙ ap (λ (x : List ℕ). x ++ drop 2 bytes) (sym front) ∙ ap (λ (x : List ℕ). to_be_bytes w16 n ++ x) behind)

pub codec_two : IsCodec (λ n. n < 2 ^ 16) two_bytes first_two
codec_two = record { again = two_again; takes = two_takes }

eight_again : (n : ℕ) (rest : List ℕ) → n < 2 ^ 64 → first_eight (eight_bytes n ++ rest) ≡ Some (n, rest)
unfolding eight_bytes first_eight
eight_again n rest lt =
    let long : ltb (length (to_be_bytes w64 n ++ rest)) 8 ≡ false = le-ltb _ _ (omega (arith, length-append (to_be_bytes w64 n) rest)) in
    rw long (ap (λ (m : ℕ). Some (m, rest)) (from_be_bytes-to_be_bytes_8 n lt))

eight_takes : (bytes : List ℕ) (n : ℕ) (rest : List ℕ) → IsBytes bytes → first_eight bytes ≡ Some (n, rest)
    → (n < 2 ^ 64) × (bytes ≡ eight_bytes n ++ rest)
unfolding eight_bytes first_eight
eight_takes bytes n rest fits e =
    let g = guard_some (ltb (length bytes) 8) (from_be_bytes w64 (take 8 bytes), drop 8 bytes) (n, rest) e in
    let long : 8 ≤ length bytes = ltb-false _ _ g.0 in
    let same : from_be_bytes w64 (take 8 bytes) ≡ n = ap (λ (x : ℕ × List ℕ). x.0) g.1 in
    let behind : drop 8 bytes ≡ rest = ap (λ (x : ℕ × List ℕ). x.1) g.1 in
    let front : to_be_bytes w64 n ≡ take 8 bytes = be_bytes_8 (take 8 bytes) n (omega (arith, length-take 8 bytes)) (front_fits 8 bytes fits) (sym same) in
    (subst (λ (x : ℕ). x < 2 ^ 64) same (below_eight (take 8 bytes) (front_fits 8 bytes fits)), sym (take-append-drop 8 bytes) ∙ ap (λ (x : List ℕ). x ++ drop 8 bytes) (sym front) ∙ ap (λ (x : List ℕ). to_be_bytes w64 n ++ x) behind)

pub codec_eight : IsCodec (λ n. n < 2 ^ 64) eight_bytes first_eight
codec_eight = record { again = eight_again; takes = eight_takes }

tx_again : (t : ℕ) (rest : List ℕ) → IsTx t → first_tx (two_bytes t ++ rest) ≡ Some (t, rest)
unfolding first_tx
tx_again t rest h = rw (codec_two.again t rest h.1, ne_eqb t 0 (λ z. omega (arith, z, h.0))) refl

tx_takes : (bytes : List ℕ) (t : ℕ) (rest : List ℕ) → IsBytes bytes → first_tx bytes ≡ Some (t, rest)
    → IsTx t × (bytes ≡ two_bytes t ++ rest)
unfolding first_tx
tx_takes bytes t rest fits e =
    let b = bind_some (first_two bytes) (λ x. cond (eqb x.0 0) None (Some x)) (t, rest) e in
    let g = guard_some (eqb b.0.0 0) b.0 (t, rest) b.2 in
    let p = codec_two.takes bytes b.0.0 b.0.1 fits b.1 in
    let some : 1 ≤ b.0.0 = omega (arith, eqb-false b.0.0 0 g.0) in
    subst (λ (x : ℕ × List ℕ). IsTx x.0 × (bytes ≡ two_bytes x.0 ++ x.1)) g.1 ((some, p.0), p.1)

pub codec_tx : IsCodec IsTx two_bytes first_tx
codec_tx = record { again = tx_again; takes = tx_takes }

-- ---- keys

text_again : (text rest : List ℕ) → first_text (key_bytes text ++ rest) ≡ Some (text, rest)
text_again text rest =
    let long : leb (length text) (length (text ++ rest)) ≡ true = le-leb _ _ (omega (arith, length-append text rest)) in
    rw (long, take_at text rest (length text) refl, drop_at text rest (length text) refl) refl

text_takes : (bytes text rest : List ℕ) → first_text bytes ≡ Some (text, rest) → bytes ≡ key_bytes text ++ rest
text_takes [] text rest e = absurd cc
text_takes (n ∷ bytes) text rest e =
    let g = cond_some (leb n (length bytes)) (take n bytes, drop n bytes) (text, rest) e in
    let long : n ≤ length bytes = leb-true _ _ g.0 in
    let len : length (take n bytes) ≡ n = omega (arith, length-take n bytes) in
    let parts : bytes ≡ take n bytes ++ drop n bytes = sym (take-append-drop n bytes) in
    let whole : n ∷ bytes ≡ length (take n bytes) ∷ (take n bytes ++ drop n bytes) = ap (λ (x : List ℕ). n ∷ x) parts ∙ ap (λ (m : ℕ). m ∷ (take n bytes ++ drop n bytes)) (sym len) in
    subst (λ (x : List ℕ × List ℕ). n ∷ bytes ≡ key_bytes x.0 ++ x.1) g.1 whole

key_again : (key rest : List ℕ) → IsKey key → first_key (key_bytes key ++ rest) ≡ Some (key, rest)
unfolding first_key
key_again key rest h = ap (λ (o : Option (List ℕ × List ℕ)). o >>= λ text. cond (is_key text.0) (Some text) None) (text_again key rest) ∙ rw h refl

key_takes : (bytes key rest : List ℕ) → IsBytes bytes → first_key bytes ≡ Some (key, rest)
    → IsKey key × (bytes ≡ key_bytes key ++ rest)
unfolding first_key
key_takes bytes key rest fits e =
    let b = bind_some (first_text bytes) (λ text. cond (is_key text.0) (Some text) None) (key, rest) e in
    let g = cond_some (is_key b.0.0) b.0 (key, rest) b.2 in
    let p = text_takes bytes b.0.0 b.0.1 b.1 in
    subst (λ (x : List ℕ × List ℕ). IsKey x.0 × (bytes ≡ key_bytes x.0 ++ x.1)) g.1 (g.0, p)

pub codec_key : IsCodec IsKey key_bytes first_key
codec_key = record { again = key_again; takes = key_takes }

write_again : (write : List ℕ × ℕ) (rest : List ℕ) → IsWrite write
    → first_write (write_bytes write ++ rest) ≡ Some (write, rest)
unfolding first_write
write_again write rest h =
    let regrouped : write_bytes write ++ rest ≡ key_bytes write.0 ++ (eight_bytes write.1 ++ rest) = append_assoc (key_bytes write.0) (eight_bytes write.1) rest in
    ap first_write regrouped ∙ rw (codec_key.again write.0 (eight_bytes write.1 ++ rest) h.0, codec_eight.again write.1 rest h.1) refl

write_takes : (bytes : List ℕ) (write : List ℕ × ℕ) (rest : List ℕ) → IsBytes bytes
    → first_write bytes ≡ Some (write, rest) → IsWrite write × (bytes ≡ write_bytes write ++ rest)
unfolding first_write
write_takes bytes write rest fits e =
    let a = bind_some (first_key bytes) (λ key. first_eight key.1 >>= λ value. Some ((key.0, value.0), value.1)) (write, rest) e in
    let b = bind_some (first_eight a.0.1) (λ value. Some ((a.0.0, value.0), value.1)) (write, rest) a.2 in
    let p = codec_key.takes bytes a.0.0 a.0.1 fits a.1 in
    let q = codec_eight.takes a.0.1 b.0.0 b.0.1 (IsBytes-behind (key_bytes a.0.0) a.0.1 bytes p.1 fits) b.1 in
    let made : (List ℕ × ℕ) × List ℕ = ((a.0.0, b.0.0), b.0.1) in
    let same : made ≡ (write, rest) = cc in
    let whole : bytes ≡ write_bytes (a.0.0, b.0.0) ++ b.0.1 = p.1 ∙ ap (λ (x : List ℕ). key_bytes a.0.0 ++ x) q.1 ∙ sym (append_assoc (key_bytes a.0.0) (eight_bytes b.0.0) b.0.1) in
    subst (λ (x : (List ℕ × ℕ) × List ℕ). IsWrite x.0 × (bytes ≡ write_bytes x.0 ++ x.1)) same ((p.0, q.0), whole)

pub codec_write : IsCodec IsWrite write_bytes first_write
codec_write = record { again = write_again; takes = write_takes }
