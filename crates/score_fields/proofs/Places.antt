-- Where the fields of a table stand in some bytes.
use Rattle.std.proofs.Common.{◌≡◌, ℕ, ◌+◌, ◌-◌, ◌<◌, ◌≤◌, IfNone, List, [], ◌∷◌, ◌++◌, length, get_or, take, drop, map, slice_range, Option, Some, None, option_map, refl, sym, ap, subst, ◌∙◌, append_assoc, arith, length-append, length-drop}
use Rattle.std.proofs.lemmas.List.{take_at, drop_at, length-take, drop-drop}
use Rattle.std.specs.List.{AllByRecursion}
use Rattle.std.proofs.lemmas.List.Elements.{All-from_recursion}
use Rattle.score_fields.specs.declared.fields.Field.{Field}
use Rattle.score_fields.specs.declared.fields.Datum.{Datum}
use Rattle.score_fields.specs.declared.fields.Datum.TheVariants as datum
use Rattle.score_fields.specs.Spelling.{IsBytes}
use Rattle.score_fields.specs.Reading.{◌>>=◌}
use Rattle.score_fields.specs.Fields.{Meaning, Number, Key, Bytes, meaning, IsWithin, IsTaken, layout_bytes, field_bytes, AllFit, fields_bytes, datum_at, data_at, as_bytes, placed, first_field, first_fields, data_from}
use Rattle.score_fields.proofs.Codecs.{IsBytes-drop}
use Rattle.score_fields.proofs.FieldCodecs.{field_takes, fields_takes, fields_again}

span_long : (bytes rest : List ℕ) (place : ℕ) (behind : List ℕ) → place ≤ length bytes
    → length rest < length (drop place bytes) → rest ≡ behind
    → place + length (take (length (drop place bytes) - length behind) (drop place bytes)) ≡ length bytes - length rest
span_long bytes rest place behind within shorter same =
    omega (arith, ap length same, length-take (length (drop place bytes) - length behind) (drop place bytes), length-drop place bytes)

span_at : (end place : ℕ) (bytes rest behind : List ℕ) → end ≡ length bytes - length rest → rest ≡ behind
    → ◌≡◌ {A = Option (Datum × ℕ)} (Some (datum.Span place (length bytes - length rest), length bytes - length rest))
    (Some (datum.Span place end, length bytes - length behind))
span_at end place bytes rest behind long same =
    ap (λ (n : ℕ). Some (datum.Span place n, length bytes - length rest)) (sym long) ∙ ap (λ (r : List ℕ). Some (datum.Span place end, length bytes - length r)) same

-- a span from where a value was read first to where the rest begins
pub span_is : {A : Type 0} (bytes rest : List ℕ) (place : ℕ) (o : Option (A × List ℕ)) → place ≤ length bytes
    → length rest < length (drop place bytes) → Some rest ≡ option_map (λ x. x.1) o
    → ◌≡◌ {A = Option (Datum × ℕ)} (Some (datum.Span place (length bytes - length rest), length bytes - length rest))
    (placed place bytes (as_bytes (drop place bytes) o))
span_is bytes rest place None within shorter e = absurd cc
span_is bytes rest place (Some x) within shorter e =
    let same : rest ≡ x.1 = cc in
    let long = span_long bytes rest place x.1 within shorter same in
    span_at (place + length (take (length (drop place bytes) - length x.1) (drop place bytes))) place bytes rest x.1 long same

-- ---- data and what they mean

placed_as : (f : Field) (place : ℕ) (bytes : List ℕ) (x : Meaning × List ℕ) → place ≤ length bytes
    → drop place bytes ≡ field_bytes f x.0 ++ x.1 → length bytes - length x.1 ≡ place + length (field_bytes f x.0)
placed_as f place bytes x within e = omega (arith, ap length e, length-append (field_bytes f x.0) x.1, length-drop place bytes)

rest_is : (place : ℕ) (bytes front rest : List ℕ) → drop place bytes ≡ front ++ rest
    → drop (place + length front) bytes ≡ rest
rest_is place bytes front rest e = sym (drop-drop (length front) place bytes) ∙ ap (drop (length front)) e ∙ drop_at front rest (length front) refl

-- the data of what a table reads first from this place on
abbrev pub data_of : ℕ → List Field → List ℕ → Option (List Meaning × List ℕ) → Option (List Datum × ℕ)
data_of place fs bytes None = None
data_of place fs bytes (Some x) = Some (data_at place fs x.0, length bytes - length x.1)

abbrev with_datum : Datum → Option (List Datum × ℕ) → Option (List Datum × ℕ)
with_datum d o = o >>= λ ds. Some (d ∷ ds.0, ds.1)

abbrev with_meaning : Meaning → Option (List Meaning × List ℕ) → Option (List Meaning × List ℕ)
with_meaning m o = o >>= λ ms. Some (m ∷ ms.0, ms.1)

one_more : (f : Field) (fs : List Field) (place : ℕ) (bytes : List ℕ) (m : Meaning) (after : ℕ)
    (o : Option (List Meaning × List ℕ)) → after ≡ place + length (field_bytes f m)
    → with_datum (datum_at place m) (data_of after fs bytes o) ≡ data_of place (f ∷ fs) bytes (with_meaning m o)
one_more f fs place bytes m after None e = refl
one_more f fs place bytes m after (Some x) e = ap (λ (n : ℕ). Some (datum_at place m ∷ data_at n fs x.0, length bytes - length x.1)) e

pub data_is : (fs : List Field) (place : ℕ) (bytes : List ℕ) → IsBytes bytes → place ≤ length bytes
    → data_from fs place bytes ≡ data_of place fs bytes (first_fields fs (drop place bytes))
data_is [] place bytes fits within =
    let end : place ≡ length bytes - length (drop place bytes) = omega (arith, length-drop place bytes) in
    ap (λ (n : ℕ). Some ([], n)) end
data_is (f ∷ fs) place bytes fits within = by_field (λ p. data_is fs p bytes fits) (first_field f (drop place bytes)) refl where
  by_field : ((p : ℕ) → p ≤ length bytes → data_from fs p bytes ≡ data_of p fs bytes (first_fields fs (drop p bytes)))
      → (o : Option (Meaning × List ℕ)) → first_field f (drop place bytes) ≡ o
      → (placed place bytes o >>= λ d. with_datum d.0 (data_from fs d.1 bytes))
      ≡ data_of place (f ∷ fs) bytes (o >>= λ m. with_meaning m.0 (first_fields fs m.1))
  by_field rest_of None e = refl
  by_field rest_of (Some x) e =
      let took = field_takes f (drop place bytes) x (IsBytes-drop place bytes fits) e in
      let after : length bytes - length x.1 ≡ place + length (field_bytes f x.0) = placed_as f place bytes x within took.1 in
      let rest : drop (length bytes - length x.1) bytes ≡ x.1 = ap (λ (n : ℕ). drop n bytes) after ∙ rest_is place bytes (field_bytes f x.0) x.1 took.1 in
      let more : data_from fs (length bytes - length x.1) bytes ≡ data_of (length bytes - length x.1) fs bytes (first_fields fs x.1) = rest_of (length bytes - length x.1) (omega arith) ∙ ap (λ (r : List ℕ). data_of (length bytes - length x.1) fs bytes (first_fields fs r)) rest in
      ap (with_datum (datum_at place x.0)) more ∙ one_more f fs place bytes x.0 (length bytes - length x.1) (first_fields fs x.1) after

-- ---- what data mean where they stand

front_slice : (front text rest : List ℕ)
    → slice_range (front ++ (text ++ rest)) (length front) (length front + length text) ≡ text
front_slice front text rest =
    let n : length front + length text - length front ≡ length text = omega arith in
    ap (λ (k : ℕ). take k (drop (length front) (front ++ (text ++ rest)))) n ∙ ap (take (length text)) (drop_at front (text ++ rest) (length front) refl) ∙ take_at text rest (length text) refl

-- a datum that was placed means what was meant, and lies in the bytes
means_it : (f : Field) (m : Meaning) (front rest : List ℕ)
    → (meaning (front ++ (field_bytes f m ++ rest)) (datum_at (length front) m) ≡ m)
    × IsWithin (front ++ (field_bytes f m ++ rest)) (datum_at (length front) m)
means_it f (Number n) front rest = (refl, tt)
means_it f (Key key) front rest = (refl, tt)
means_it f (Bytes text) front rest = (ap (λ (b : List ℕ). Bytes b) (front_slice front text rest), (omega arith, omega (arith, length-append front (text ++ rest), length-append text rest)))

pub mean_them : (fs : List Field) (ms : List Meaning) (front rest : List ℕ) → AllFit fs ms
    → (map (meaning (front ++ (fields_bytes fs ms ++ rest))) (data_at (length front) fs ms) ≡ ms)
    × AllByRecursion (IsWithin (front ++ (fields_bytes fs ms ++ rest))) (data_at (length front) fs ms)
mean_them [] [] front rest fit = (refl, tt)
mean_them [] (m ∷ ms) front rest fit = absurd fit
mean_them (f ∷ fs) [] front rest fit = absurd fit
mean_them (f ∷ fs) (m ∷ ms) front rest fit =
    let text = field_bytes f m in
    let tail = fields_bytes fs ms in
    let here : front ++ (fields_bytes (f ∷ fs) (m ∷ ms) ++ rest) ≡ front ++ (text ++ (tail ++ rest)) = ap (λ (y : List ℕ). front ++ y) (append_assoc text tail rest) in
    let there : front ++ (fields_bytes (f ∷ fs) (m ∷ ms) ++ rest) ≡ (front ++ text) ++ (tail ++ rest) = here ∙ sym (append_assoc front text (tail ++ rest)) in
    let one = means_it f m front (tail ++ rest) in
    let more = mean_them fs ms (front ++ text) rest fit.1 in
    let at : length (front ++ text) ≡ length front + length text = length-append front text in
    let one' : (meaning (front ++ (fields_bytes (f ∷ fs) (m ∷ ms) ++ rest)) (datum_at (length front) m) ≡ m) × IsWithin (front ++ (fields_bytes (f ∷ fs) (m ∷ ms) ++ rest)) (datum_at (length front) m) =
    subst (λ (b : List ℕ). (meaning b (datum_at (length front) m) ≡ m) × IsWithin b (datum_at (length front) m)) (sym here) one in
    let more' : (map (meaning (front ++ (fields_bytes (f ∷ fs) (m ∷ ms) ++ rest))) (data_at (length front + length text) fs ms) ≡ ms) × AllByRecursion (IsWithin (front ++ (fields_bytes (f ∷ fs) (m ∷ ms) ++ rest))) (data_at (length front + length text) fs ms) =
    subst (λ (n : ℕ). (map (meaning (front ++ (fields_bytes (f ∷ fs) (m ∷ ms) ++ rest))) (data_at n fs ms) ≡ ms) × AllByRecursion (IsWithin (front ++ (fields_bytes (f ∷ fs) (m ∷ ms) ++ rest))) (data_at n fs ms)) at
    (subst (λ (b : List ℕ). (map (meaning b) (data_at (length (front ++ text)) fs ms) ≡ ms) × AllByRecursion (IsWithin b) (data_at (length (front ++ text)) fs ms)) (sym there) more) in
    (ap (λ (x : Meaning). x ∷ map (meaning (front ++ (fields_bytes (f ∷ fs) (m ∷ ms) ++ rest))) (data_at (length front + length text) fs ms)) one'.0 ∙ ap (λ (xs : List Meaning). m ∷ xs) more'.0, (one'.1, more'.1))

-- ---- a whole layout

some_data : (place : ℕ) (fs : List Field) (bytes : List ℕ) (o : Option (List Meaning × List ℕ)) (values : List Datum)
    (used : ℕ) → Some (values, used) ≡ data_of place fs bytes o
    → (x : List Meaning × List ℕ) × (o ≡ Some x) × (values ≡ data_at place fs x.0) × (used ≡ length bytes - length x.1)
some_data place fs bytes None values used e = absurd cc
some_data place fs bytes (Some x) values used e =
    let pair : ◌≡◌ {A = List Datum × ℕ} (values, used) (data_at place fs x.0, length bytes - length x.1) = cc in
    (x, refl, ap (λ (p : List Datum × ℕ). p.0) pair, ap (λ (p : List Datum × ℕ). p.1) pair)

-- what a table took is what stands there
pub is_taken : (tag : ℕ) (fs : List Field) (bytes : List ℕ) (values : List Datum) (used : ℕ) → IsBytes bytes
    → bytes ≡ tag ∷ drop 1 bytes → Some (values, used) ≡ data_from fs 1 bytes → IsTaken tag fs bytes values used
is_taken tag fs bytes values used fits tag-is e =
    let some : 1 ≤ length bytes = omega (arith, ap length tag-is) in
    let s = some_data 1 fs bytes (first_fields fs (drop 1 bytes)) values used (e ∙ data_is fs 1 bytes fits some) in
    let ms = s.0.0 in
    let rest = s.0.1 in
    let took = fields_takes fs (drop 1 bytes) s.0 (IsBytes-drop 1 bytes fits) s.1 in
    let whole : bytes ≡ (tag ∷ []) ++ (fields_bytes fs ms ++ rest) = tag-is ∙ ap (λ (b : List ℕ). tag ∷ b) took.1 in
    let means = mean_them fs ms (tag ∷ []) rest took.0 in
    let mean : map (meaning bytes) values ≡ ms = ap (λ (b : List ℕ). map (meaning b) values) whole ∙ ap (map (meaning ((tag ∷ []) ++ (fields_bytes fs ms ++ rest)))) s.2 ∙ means.0 in
    let spans : AllByRecursion (IsWithin bytes) values = subst (λ (b : List ℕ). AllByRecursion (IsWithin b) values) (sym whole) (subst (AllByRecursion (IsWithin ((tag ∷ []) ++ (fields_bytes fs ms ++ rest)))) (sym s.2) means.1) in
    let long : used ≡ length (layout_bytes tag fs ms) = omega (arith, s.3, ap length whole, length-append (fields_bytes fs ms) rest) in
    let front : take used bytes ≡ layout_bytes tag fs ms = ap (λ (n : ℕ). take n bytes) long ∙ ap (take (length (layout_bytes tag fs ms))) whole ∙ take_at (layout_bytes tag fs ms) rest (length (layout_bytes tag fs ms)) refl in
    record {
      within = omega (arith, s.3);
      spans = All-from_recursion (IsWithin bytes) values spans;
      fits = subst (AllFit fs) (sym mean) took.0;
      spelled = front ∙ ap (layout_bytes tag fs) (sym mean);
      placed = s.2 ∙ ap (data_at 1 fs) (sym mean);
    }

-- what is spelled so is taken
pub is_taken_again : (tag : ℕ) (fs : List Field) (bytes : List ℕ) (ms : List Meaning) (rest : List ℕ) → IsBytes bytes
    → AllFit fs ms → bytes ≡ layout_bytes tag fs ms ++ rest
    → data_from fs 1 bytes ≡ Some (data_at 1 fs ms, length (layout_bytes tag fs ms))
is_taken_again tag fs bytes ms rest fits fit e =
    let some : 1 ≤ length bytes = omega (arith, ap length e) in
    let behind : drop 1 bytes ≡ fields_bytes fs ms ++ rest = ap (drop 1) e in
    let read : first_fields fs (drop 1 bytes) ≡ Some (ms, rest) = ap (first_fields fs) behind ∙ fields_again fs ms rest fit in
    let long : length bytes - length rest ≡ length (layout_bytes tag fs ms) = omega (arith, ap length e, length-append (layout_bytes tag fs ms) rest) in
    data_is fs 1 bytes fits some ∙ ap (data_of 1 fs bytes) read ∙ ap (λ (n : ℕ). Some (data_at 1 fs ms, n)) long

-- ---- how taking ends

pub behind_tag : (bytes : List ℕ) (tag : ℕ) → 1 ≤ length bytes → get_or bytes 0 0 ≡ tag → bytes ≡ tag ∷ drop 1 bytes
behind_tag [] tag some e = absurd (omega (arith, some))
behind_tag (b ∷ bytes) tag some e = ap (λ (n : ℕ). n ∷ bytes) e

pub not_taken : (tag : ℕ) (fs : List Field) (bytes : List ℕ) → IsBytes bytes → None ≡ data_from fs 1 bytes
    → (ms : List Meaning) (rest : List ℕ) → AllFit fs ms → bytes ≡ layout_bytes tag fs ms ++ rest → ⊥
not_taken tag fs bytes fits none ms rest fit e =
    let bad : ◌≡◌ {A = Option (List Datum × ℕ)} None (Some (data_at 1 fs ms, length (layout_bytes tag fs ms))) = none ∙ is_taken_again tag fs bytes ms rest fits fit e in
    absurd cc

pub taken_is : (tag : ℕ) (fs : List Field) (bytes : List ℕ) (values : List Datum) (used : ℕ) → IsBytes bytes
    → Some (values, used) ≡ data_from fs 1 bytes
    → (ms : List Meaning) (rest : List ℕ) → AllFit fs ms → bytes ≡ layout_bytes tag fs ms ++ rest
    → (values ≡ data_at 1 fs ms) × (used ≡ length (layout_bytes tag fs ms))
taken_is tag fs bytes values used fits some ms rest fit e =
    let same : ◌≡◌ {A = Option (List Datum × ℕ)} (Some (values, used)) (Some (data_at 1 fs ms, length (layout_bytes tag fs ms))) = some ∙ is_taken_again tag fs bytes ms rest fits fit e in
    let pair : ◌≡◌ {A = List Datum × ℕ} (values, used) (data_at 1 fs ms, length (layout_bytes tag fs ms)) = cc in
    (ap (λ (p : List Datum × ℕ). p.0) pair, ap (λ (p : List Datum × ℕ). p.1) pair)

pub if_none : {A : Type 0} (o : Option A) (P : Type 0) → P → IfNone o P
if_none None P p = p
if_none (Some x) P p = tt
