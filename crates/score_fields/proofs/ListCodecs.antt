-- Lists of keys and of writes: the same two ways, for any kind of member.
use Rattle.std.proofs.Common.{◌≡◌, ℕ, zero, suc, ◌+◌, ◌-◌, ◌<◌, option_map, ◌≤◌, Bool, true, false, cond, leb, List, [], ◌∷◌, ◌++◌, length, Option, Some, None, refl, sym, ap, subst, ◌∙◌, append_assoc, arith}
use Rattle.std.specs.List.{flat_map, AllByRecursion}
use Rattle.std.proofs.lemmas.Bool.{leb-true, le-leb}
use Rattle.std.proofs.lemmas.List.Concat.{flat_map-cons}
use Rattle.score_fields.specs.Spelling.{IsBytes, IsKey, key_bytes, AreKeys, keys_bytes, IsWrite, write_bytes, AreWrites, writes_bytes}
use Rattle.score_fields.specs.Reading.{◌>>=◌, first_many, first_list, first_key, first_keys, first_write, first_writes}
use Rattle.score_fields.proofs.Codecs.{IsCodec, IsBytes-rest, IsBytes-behind, bind_some, codec_key, codec_write}

many_again : {A : Type 0} (Is : A → Type 0) (bytes_of : A → List ℕ) (first : List ℕ → Option (A × List ℕ))
    → IsCodec Is bytes_of first
    → (xs : List A) (rest : List ℕ) → AllByRecursion Is xs
    → first_many first (length xs) (flat_map bytes_of xs ++ rest) ≡ Some (xs, rest)
many_again Is bytes_of first codec [] rest each = refl
many_again Is bytes_of first codec (x ∷ xs) rest each =
    let regrouped : flat_map bytes_of (x ∷ xs) ++ rest ≡ bytes_of x ++ (flat_map bytes_of xs ++ rest) = ap (λ (y : List ℕ). y ++ rest) (flat_map-cons bytes_of x xs) ∙ append_assoc (bytes_of x) (flat_map bytes_of xs) rest in
    ap (first_many first (suc (length xs))) regrouped ∙ rw (codec.again x (flat_map bytes_of xs ++ rest) each.0, many_again Is bytes_of first codec xs rest each.1) refl

many_takes : {A : Type 0} (Is : A → Type 0) (bytes_of : A → List ℕ) (first : List ℕ → Option (A × List ℕ))
    → IsCodec Is bytes_of first
    → (n : ℕ) (bytes : List ℕ) (x : List A × List ℕ) → IsBytes bytes → first_many first n bytes ≡ Some x
    → (length x.0 ≡ n) × AllByRecursion Is x.0 × (bytes ≡ flat_map bytes_of x.0 ++ x.1)
many_takes {A} Is bytes_of first codec zero bytes x fits e =
    let none : List A × List ℕ = ([], bytes) in
    let same : none ≡ x = cc in
    subst (λ (y : List A × List ℕ). (length y.0 ≡ 0) × AllByRecursion Is y.0 × (bytes ≡ flat_map bytes_of y.0 ++ y.1)) same (refl, tt, refl)
many_takes {A} Is bytes_of first codec (suc n) bytes x fits e =
    let a = bind_some (first bytes) (λ y. first_many first n y.1 >>= λ ys. Some (y.0 ∷ ys.0, ys.1)) x e in
    let b = bind_some (first_many first n a.0.1) (λ ys. Some (a.0.0 ∷ ys.0, ys.1)) x a.2 in
    let p = codec.takes bytes a.0.0 a.0.1 fits a.1 in
    let q = many_takes Is bytes_of first codec n a.0.1 b.0 (IsBytes-behind (bytes_of a.0.0) a.0.1 bytes p.1 fits) b.1 in
    let made : List A × List ℕ = (a.0.0 ∷ b.0.0, b.0.1) in
    let same : made ≡ x = cc in
    let whole : bytes ≡ flat_map bytes_of (a.0.0 ∷ b.0.0) ++ b.0.1 = p.1 ∙ ap (λ (y : List ℕ). bytes_of a.0.0 ++ y) q.2 ∙ sym (append_assoc (bytes_of a.0.0) (flat_map bytes_of b.0.0) b.0.1) ∙ ap (λ (y : List ℕ). y ++ b.0.1) (sym (flat_map-cons bytes_of a.0.0 b.0.0)) in
    subst (λ (y : List A × List ℕ). (length y.0 ≡ suc n) × AllByRecursion Is y.0 × (bytes ≡ flat_map bytes_of y.0 ++ y.1)) same (ap suc q.0, (p.0, q.1), whole)

list_again : {A : Type 0} (Is : A → Type 0) (bytes_of : A → List ℕ) (first : List ℕ → Option (A × List ℕ))
    → IsCodec Is bytes_of first
    → (xs : List A) (rest : List ℕ) → length xs ≤ 32 → AllByRecursion Is xs
    → first_list first (length xs ∷ (flat_map bytes_of xs ++ rest)) ≡ Some (xs, rest)
list_again Is bytes_of first codec xs rest most each = rw (le-leb (length xs) 32 most) (many_again Is bytes_of first codec xs rest each)

list_takes : {A : Type 0} (Is : A → Type 0) (bytes_of : A → List ℕ) (first : List ℕ → Option (A × List ℕ))
    → IsCodec Is bytes_of first
    → (bytes : List ℕ) (xs : List A) (rest : List ℕ) → IsBytes bytes → first_list first bytes ≡ Some (xs, rest)
    → (length xs ≤ 32) × AllByRecursion Is xs × (bytes ≡ length xs ∷ (flat_map bytes_of xs ++ rest))
list_takes Is bytes_of first codec [] xs rest fits e = absurd cc
list_takes Is bytes_of first codec (n ∷ bytes) xs rest fits e =
    let g = chosen (leb n 32) (first_many first n bytes) (xs, rest) e in
    let p = many_takes Is bytes_of first codec n bytes (xs, rest) (IsBytes-rest n bytes fits) g.1 in
    (omega (arith, p.0, leb-true n 32 g.0), p.1, ap (λ (y : List ℕ). n ∷ y) p.2 ∙ ap (λ (m : ℕ). m ∷ (flat_map bytes_of xs ++ rest)) (sym p.0)) where
      chosen : {X : Type 0} (b : Bool) (o : Option X) (y : X) → cond b o None ≡ Some y → (b ≡ true) × (o ≡ Some y)
      chosen true o y e = (refl, e)
      chosen false o y e = absurd cc

keys_again : (keys : List (List ℕ)) (rest : List ℕ) → AreKeys keys
    → first_keys (keys_bytes keys ++ rest) ≡ Some (keys, rest)
unfolding first_keys
keys_again keys rest h = list_again IsKey key_bytes first_key codec_key keys rest h.most h.each

keys_takes : (bytes : List ℕ) (keys : List (List ℕ)) (rest : List ℕ) → IsBytes bytes
    → first_keys bytes ≡ Some (keys, rest) → AreKeys keys × (bytes ≡ keys_bytes keys ++ rest)
unfolding first_keys
keys_takes bytes keys rest fits e =
    let p = list_takes IsKey key_bytes first_key codec_key bytes keys rest fits e in
    (record { most = p.0; each = p.1 }, p.2)

pub codec_keys : IsCodec AreKeys keys_bytes first_keys
codec_keys = record { again = keys_again; takes = keys_takes }

writes_again : (writes : List (List ℕ × ℕ)) (rest : List ℕ) → AreWrites writes
    → first_writes (writes_bytes writes ++ rest) ≡ Some (writes, rest)
unfolding first_writes
writes_again writes rest h = list_again IsWrite write_bytes first_write codec_write writes rest h.most h.each

writes_takes : (bytes : List ℕ) (writes : List (List ℕ × ℕ)) (rest : List ℕ) → IsBytes bytes
    → first_writes bytes ≡ Some (writes, rest) → AreWrites writes × (bytes ≡ writes_bytes writes ++ rest)
unfolding first_writes
writes_takes bytes writes rest fits e =
    let p = list_takes IsWrite write_bytes first_write codec_write bytes writes rest fits e in
    (record { most = p.0; each = p.1 }, p.2)

pub codec_writes : IsCodec AreWrites writes_bytes first_writes
codec_writes = record { again = writes_again; takes = writes_takes }

-- ---- past the members, one after the other, as a loop goes

-- what stands behind a value that was read
abbrev pub behind : {A : Type 0} → Option (A × List ℕ) → Option (List ℕ)
behind o = option_map (λ x. x.1) o

behind_more : {A : Type 0} (x : A) (o : Option (List A × List ℕ))
    → behind (o >>= λ xs. Some (x ∷ xs.0, xs.1)) ≡ behind o
behind_more x None = refl
behind_more x (Some xs) = refl

pub many_goes_on : {A : Type 0} (first : List ℕ → Option (A × List ℕ)) (n i : ℕ) (bytes : List ℕ) (x : A)
    (after : List ℕ) → i < n → Some (x, after) ≡ first bytes
    → behind (first_many first (n - (i + 1)) after) ≡ behind (first_many first (n - i) bytes)
many_goes_on {A} first n i bytes x after lt e =
    let k : n - i ≡ suc (n - (i + 1)) = omega arith in
    sym (ap (λ (m : ℕ). behind (first_many first m bytes)) k ∙ ap (λ (o : Option (A × List ℕ)). behind (o >>= λ y. first_many first (n - (i + 1)) y.1 >>= λ ys. Some (y.0 ∷ ys.0, ys.1))) (sym e) ∙ behind_more x (first_many first (n - (i + 1)) after))
