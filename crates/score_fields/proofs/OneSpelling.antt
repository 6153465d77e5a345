-- Two spellings of the same bytes are one.
use Rattle.std.proofs.Common.{◌≡◌, ℕ, List, ◌++◌, drop, Option, Some, sym, ap, ◌∙◌}
use Rattle.score_fields.specs.declared.fields.Field.{Field}
use Rattle.score_fields.specs.Fields.{Meaning, AllFit, layout_bytes, first_fields}
use Rattle.score_fields.proofs.Codecs.{IsCodec}
use Rattle.score_fields.proofs.FieldCodecs.{fields_again}

some_parts : {A B : Type 0} (a x : A) (b y : B) → ◌≡◌ {A = Option (A × B)} (Some (a, b)) (Some (x, y))
    → (a ≡ x) × (b ≡ y)
some_parts {A} {B} a x b y e =
    let pair : ◌≡◌ {A = A × B} (a, b) (x, y) = cc in
    (ap (λ (p : A × B). p.0) pair, ap (λ (p : A × B). p.1) pair)

pub same_value : {A : Type 0} {Is : A → Type 0} {bytes_of : A → List ℕ} {first : List ℕ → Option (A × List ℕ)}
    → IsCodec Is bytes_of first
    → (a b : A) (x y : List ℕ) → Is a → Is b → bytes_of a ++ x ≡ bytes_of b ++ y → (a ≡ b) × (x ≡ y)
same_value {first = first} codec a b x y is-a is-b e = some_parts a b x y (sym (codec.again a x is-a) ∙ ap first e ∙ codec.again b y is-b)

pub same_data : (tag : ℕ) (fs : List Field) (a b : List Meaning) (x y : List ℕ) → AllFit fs a → AllFit fs b
    → layout_bytes tag fs a ++ x ≡ layout_bytes tag fs b ++ y → (a ≡ b) × (x ≡ y)
same_data tag fs a b x y is-a is-b e = some_parts a b x y (sym (fields_again fs a x is-a) ∙ ap (λ (bytes : List ℕ). first_fields fs (drop 1 bytes)) e ∙ fields_again fs b y is-b)
