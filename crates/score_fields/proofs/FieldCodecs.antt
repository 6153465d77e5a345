-- Fields of every kind and tables of them: the same two ways.
use Rattle.std.proofs.Common.{◌≡◌, ℕ, ◌-◌, ◌≤◌, List, [], ◌∷◌, ◌++◌, length, take, Option, Some, None, refl, sym, ap, subst, ◌∙◌, append_assoc, arith}
use Rattle.std.proofs.lemmas.List.{take_at, length-append}
use Rattle.score_fields.specs.declared.fields.Field.{Field}
use Rattle.score_fields.specs.declared.fields.Field.TheVariants as field
use Rattle.score_fields.specs.Spelling.{IsBytes, IsSpelling, AreNodes, nodes_bytes, AreKeys, keys_bytes, AreWrites, writes_bytes, IsOutcome, outcome_bytes, IsBallot, ballot_bytes, IsDate, date_bytes}
use Rattle.score_fields.specs.Reading.{◌>>=◌, first_within, first_eight, first_tx, first_key, first_nodes, first_keys, first_writes, first_outcome, first_ballot, first_date}
use Rattle.score_fields.specs.Fields.{Meaning, Number, Key, Bytes, Fits, field_bytes, AllFit, fields_bytes, as_number, as_key, as_bytes, first_field, first_fields}
use Rattle.score_fields.proofs.Codecs.{IsCodec, IsBytes-behind, bind_some, codec_within, codec_eight, codec_tx, codec_key}
use Rattle.score_fields.proofs.NodeCodec.{codec_nodes}
use Rattle.score_fields.proofs.ListCodecs.{codec_keys, codec_writes}
use Rattle.score_fields.proofs.ChoiceCodecs.{codec_outcome, codec_ballot, codec_date}

-- ---- one field

as_number_some : (o : Option (ℕ × List ℕ)) (x : Meaning × List ℕ) → as_number o ≡ Some x
    → (y : ℕ × List ℕ) × (o ≡ Some y) × (x ≡ (Number y.0, y.1))
as_number_some None x e = absurd cc
as_number_some (Some y) x e = (y, refl, cc)

as_key_some : (o : Option (List ℕ × List ℕ)) (x : Meaning × List ℕ) → as_key o ≡ Some x
    → (y : List ℕ × List ℕ) × (o ≡ Some y) × (x ≡ (Key y.0, y.1))
as_key_some None x e = absurd cc
as_key_some (Some y) x e = (y, refl, cc)

as_bytes_some : {A : Type 0} (bytes : List ℕ) (o : Option (A × List ℕ)) (x : Meaning × List ℕ)
    → as_bytes bytes o ≡ Some x
    → (y : A × List ℕ) × (o ≡ Some y) × (x ≡ (Bytes (take (length bytes - length y.1) bytes), y.1))
as_bytes_some bytes None x e = absurd cc
as_bytes_some bytes (Some y) x e = (y, refl, cc)

-- the bytes in front of the rest
front_of : (front rest : List ℕ) → take (length (front ++ rest) - length rest) (front ++ rest) ≡ front
front_of front rest = take_at front rest (length (front ++ rest) - length rest) (omega (arith, length-append front rest))

spelled_again : {A : Type 0} (Is : A → Type 0) (bytes_of : A → List ℕ) (first : List ℕ → Option (A × List ℕ))
    → IsCodec Is bytes_of first
    → (bytes rest : List ℕ) → IsSpelling Is bytes_of bytes
    → as_bytes (bytes ++ rest) (first (bytes ++ rest)) ≡ Some (Bytes bytes, rest)
spelled_again {A} Is bytes_of first codec bytes rest h =
    let read : first (bytes ++ rest) ≡ Some (h.value, rest) = ap (λ (b : List ℕ). first (b ++ rest)) h.spelled ∙ codec.again h.value rest h.fits in
    ap (as_bytes {A = A} (bytes ++ rest)) read ∙ ap (λ (b : List ℕ). Some (Bytes b, rest)) (front_of bytes rest)

spelled_takes : {A : Type 0} (Is : A → Type 0) (bytes_of : A → List ℕ) (first : List ℕ → Option (A × List ℕ))
    → IsCodec Is bytes_of first
    → (bytes : List ℕ) (x : Meaning × List ℕ) → IsBytes bytes → as_bytes bytes (first bytes) ≡ Some x
    → (b : List ℕ) × (x.0 ≡ Bytes b) × IsSpelling Is bytes_of b × (bytes ≡ b ++ x.1)
spelled_takes {A} Is bytes_of first codec bytes x fits e =
    let a = as_bytes_some bytes (first bytes) x e in
    let y = a.0 in
    let p = codec.takes bytes y.0 y.1 fits a.1 in
    let front : take (length bytes - length y.1) bytes ≡ bytes_of y.0 = ap (λ (b : List ℕ). take (length b - length y.1) b) p.1 ∙ front_of (bytes_of y.0) y.1 in
    let is : x ≡ (Bytes (bytes_of y.0), y.1) = a.2 ∙ ap (λ (b : List ℕ). (Bytes b, y.1)) front in
    (bytes_of y.0, ap (λ (z : Meaning × List ℕ). z.0) is, record { value = y.0; fits = p.0; spelled = refl }, p.1 ∙ ap (λ (r : List ℕ). bytes_of y.0 ++ r) (sym (ap (λ (z : Meaning × List ℕ). z.1) is)))

field_again : (f : Field) (m : Meaning) (rest : List ℕ) → Fits f m
    → first_field f (field_bytes f m ++ rest) ≡ Some (m, rest)
unfolding first_field
field_again field.U8 (Number n) rest h = ap as_number ((codec_within 0 255).again n rest (omega arith, omega (arith, h)))
field_again field.U64 (Number n) rest h = ap as_number (codec_eight.again n rest h)
field_again field.Op (Number n) rest h = ap as_number ((codec_within 1 32).again n rest h)
field_again field.Tx (Number n) rest h = ap as_number (codec_tx.again n rest h)
field_again field.Node (Number n) rest h = ap as_number ((codec_within 1 16).again n rest h)
field_again field.Key (Key key) rest h = ap as_key (codec_key.again key rest h)
field_again field.Nodes (Bytes bytes) rest h = spelled_again AreNodes nodes_bytes first_nodes codec_nodes bytes rest h
field_again field.Keys (Bytes bytes) rest h = spelled_again AreKeys keys_bytes first_keys codec_keys bytes rest h
field_again field.Writes (Bytes bytes) rest h = spelled_again AreWrites writes_bytes first_writes codec_writes bytes rest h
field_again field.Outcome (Bytes bytes) rest h = spelled_again IsOutcome outcome_bytes first_outcome codec_outcome bytes rest h
field_again field.Ballot (Bytes bytes) rest h = spelled_again IsBallot ballot_bytes first_ballot codec_ballot bytes rest h
field_again field.Date (Bytes bytes) rest h = spelled_again IsDate date_bytes first_date codec_date bytes rest h
field_again f m rest h = absurd h

-- what a field took, in one piece
abbrev Took : Field → List ℕ → Meaning × List ℕ → Type 0
Took f bytes x = Fits f x.0 × (bytes ≡ field_bytes f x.0 ++ x.1)

number_took : (f : Field) (Is : ℕ → Type 0) (bytes_of : ℕ → List ℕ) (first : List ℕ → Option (ℕ × List ℕ))
    → IsCodec Is bytes_of first
    → ((n : ℕ) → Is n → Fits f (Number n)) → ((n : ℕ) → field_bytes f (Number n) ≡ bytes_of n)
    → (bytes : List ℕ) (x : Meaning × List ℕ) → IsBytes bytes → as_number (first bytes) ≡ Some x → Took f bytes x
number_took f Is bytes_of first codec good same bytes x fits e =
    let a = as_number_some (first bytes) x e in
    let p = codec.takes bytes a.0.0 a.0.1 fits a.1 in
    subst (Took f bytes) (sym a.2) (good a.0.0 p.0, p.1 ∙ ap (λ (b : List ℕ). b ++ a.0.1) (sym (same a.0.0)))

spelled_took : {A : Type 0} (f : Field) (Is : A → Type 0) (bytes_of : A → List ℕ) (first : List ℕ → Option (A × List ℕ))
    → IsCodec Is bytes_of first
    → ((b : List ℕ) → IsSpelling Is bytes_of b → Fits f (Bytes b)) → ((b : List ℕ) → field_bytes f (Bytes b) ≡ b)
    → (bytes : List ℕ) (x : Meaning × List ℕ) → IsBytes bytes → as_bytes bytes (first bytes) ≡ Some x → Took f bytes x
spelled_took f Is bytes_of first codec good same bytes x fits e =
    let a = spelled_takes Is bytes_of first codec bytes x fits e in
    (subst (λ (m : Meaning). Fits f m) (sym a.1) (good a.0 a.2), a.3 ∙ ap (λ (b : List ℕ). b ++ x.1) (sym (ap (λ (m : Meaning). field_bytes f m) a.1 ∙ same a.0)))

pub field_takes : (f : Field) (bytes : List ℕ) (x : Meaning × List ℕ) → IsBytes bytes → first_field f bytes ≡ Some x
    → Fits f x.0 × (bytes ≡ field_bytes f x.0 ++ x.1)
unfolding first_field
field_takes field.U8 bytes x fits e = number_took field.U8 (λ n. (0 ≤ n) × (n ≤ 255)) (λ n. n ∷ []) (first_within 0 255) (codec_within 0 255) (λ n h. omega (arith, h.1)) (λ n. refl) bytes x fits e
field_takes field.U64 bytes x fits e = number_took field.U64 _ _ first_eight codec_eight (λ n h. h) (λ n. refl) bytes x fits e
field_takes field.Op bytes x fits e = number_took field.Op (λ n. (1 ≤ n) × (n ≤ 32)) (λ n. n ∷ []) (first_within 1 32) (codec_within 1 32) (λ n h. h) (λ n. refl) bytes x fits e
field_takes field.Tx bytes x fits e = number_took field.Tx _ _ first_tx codec_tx (λ n h. h) (λ n. refl) bytes x fits e
field_takes field.Node bytes x fits e = number_took field.Node (λ n. (1 ≤ n) × (n ≤ 16)) (λ n. n ∷ []) (first_within 1 16) (codec_within 1 16) (λ n h. h) (λ n. refl) bytes x fits e
field_takes field.Key bytes x fits e =
    let a = as_key_some (first_key bytes) x e in
    let p = codec_key.takes bytes a.0.0 a.0.1 fits a.1 in
    subst (Took field.Key bytes) (sym a.2) p
field_takes field.Nodes bytes x fits e = spelled_took field.Nodes AreNodes nodes_bytes first_nodes codec_nodes (λ b h. h) (λ b. refl) bytes x fits e
field_takes field.Keys bytes x fits e = spelled_took field.Keys AreKeys keys_bytes first_keys codec_keys (λ b h. h) (λ b. refl) bytes x fits e
field_takes field.Writes bytes x fits e = spelled_took field.Writes AreWrites writes_bytes first_writes codec_writes (λ b h. h) (λ b. refl) bytes x fits e
field_takes field.Outcome bytes x fits e = spelled_took field.Outcome IsOutcome outcome_bytes first_outcome codec_outcome (λ b h. h) (λ b. refl) bytes x fits e
field_takes field.Ballot bytes x fits e = spelled_took field.Ballot IsBallot ballot_bytes first_ballot codec_ballot (λ b h. h) (λ b. refl) bytes x fits e
field_takes field.Date bytes x fits e = spelled_took field.Date IsDate date_bytes first_date codec_date (λ b h. h) (λ b. refl) bytes x fits e

-- ---- tables

pub fields_again : (fs : List Field) (ms : List Meaning) (rest : List ℕ) → AllFit fs ms
    → first_fields fs (fields_bytes fs ms ++ rest) ≡ Some (ms, rest)
fields_again [] [] rest h = refl
fields_again [] (m ∷ ms) rest h = absurd h
fields_again (f ∷ fs) [] rest h = absurd h
fields_again (f ∷ fs) (m ∷ ms) rest h =
    let regrouped : fields_bytes (f ∷ fs) (m ∷ ms) ++ rest ≡ field_bytes f m ++ (fields_bytes fs ms ++ rest) = append_assoc (field_bytes f m) (fields_bytes fs ms) rest in
    ap (first_fields (f ∷ fs)) regrouped ∙ rw (field_again f m (fields_bytes fs ms ++ rest) h.0, fields_again fs ms rest h.1) refl

pub fields_takes : (fs : List Field) (bytes : List ℕ) (x : List Meaning × List ℕ) → IsBytes bytes
    → first_fields fs bytes ≡ Some x → AllFit fs x.0 × (bytes ≡ fields_bytes fs x.0 ++ x.1)
fields_takes [] bytes x fits e =
    let none : List Meaning × List ℕ = ([], bytes) in
    let same : none ≡ x = cc in
    subst (λ (y : List Meaning × List ℕ). AllFit [] y.0 × (bytes ≡ fields_bytes [] y.0 ++ y.1)) same (tt, refl)
fields_takes (f ∷ fs) bytes x fits e =
    let a = bind_some (first_field f bytes) (λ m. first_fields fs m.1 >>= λ ms. Some (m.0 ∷ ms.0, ms.1)) x e in
    let b = bind_some (first_fields fs a.0.1) (λ ms. Some (a.0.0 ∷ ms.0, ms.1)) x a.2 in
    let p = field_takes f bytes a.0 fits a.1 in
    let q = fields_takes fs a.0.1 b.0 (IsBytes-behind (field_bytes f a.0.0) a.0.1 bytes p.1 fits) b.1 in
    let made : List Meaning × List ℕ = (a.0.0 ∷ b.0.0, b.0.1) in
    let same : made ≡ x = cc in
    let whole : bytes ≡ fields_bytes (f ∷ fs) (a.0.0 ∷ b.0.0) ++ b.0.1 = p.1 ∙ ap (λ (y : List ℕ). field_bytes f a.0.0 ++ y) q.1 ∙ sym (append_assoc (field_bytes f a.0.0) (fields_bytes fs b.0.0) b.0.1) in
    subst (λ (y : List Meaning × List ℕ). AllFit (f ∷ fs) y.0 × (bytes ≡ fields_bytes (f ∷ fs) y.0 ++ y.1)) same ((p.0, q.0), whole)
