-- Tables that a loop goes through, field by field.
use Rattle.std.proofs.Common.{◌≡◌, ℕ, zero, suc, ◌+◌, ◌^◌, ◌<◌, ◌≤◌, List, [], ◌∷◌, ◌++◌, length, get_or, drop, map, All, Option, Some, refl, sym, ap, subst, ◌∙◌, append_assoc, arith, length-append}
use Rattle.std.proofs.Math.Seq.{drop-cons}
use Rattle.std.proofs.lemmas.List.{get_or-map, length-map}
use Rattle.std.proofs.lemmas.List.Elements.{All-get_or}
use Rattle.score_fields.specs.declared.fields.Field.{Field}
use Rattle.score_fields.specs.declared.fields.Datum.{Datum}
use Rattle.score_fields.specs.Reading.{◌>>=◌}
use Rattle.score_fields.specs.Fields.{Meaning, meaning, IsWithin, Fits, field_bytes, AllFit, fields_bytes, layout_bytes}
use Rattle.score_fields.proofs.Bounds.{fields_small}

-- ---- writing

pub fit_long : (fs : List Field) (ms : List Meaning) → AllFit fs ms → length fs ≡ length ms
fit_long [] [] fit = refl
fit_long [] (m ∷ ms) fit = absurd fit
fit_long (f ∷ fs) [] fit = absurd fit
fit_long (f ∷ fs) (m ∷ ms) fit = ap suc (fit_long fs ms fit.1)

fit_drop : (i : ℕ) (fs : List Field) (ms : List Meaning) → AllFit fs ms → AllFit (drop i fs) (drop i ms)
fit_drop zero fs ms fit = fit
fit_drop (suc i) [] [] fit = tt
fit_drop (suc i) [] (m ∷ ms) fit = absurd fit
fit_drop (suc i) (f ∷ fs) [] fit = absurd fit
fit_drop (suc i) (f ∷ fs) (m ∷ ms) fit = fit_drop i fs ms fit.1

fields_from : (fs : List Field) (i : ℕ) (f : Field) → i < length fs → drop i fs ≡ get_or fs i f ∷ drop (i + 1) fs
fields_from fs i f lt =
    let next : suc i ≡ i + 1 = omega arith in
    drop-cons fs i f lt ∙ ap (λ (j : ℕ). get_or fs i f ∷ drop j fs) next

-- the datum of this field, and what it means
pub record Here (source : List ℕ) (fs : List Field) (values : List Datum) (i : ℕ) (f : Field) (d : Datum) : Type 0 where
  pub fits : Fits f (meaning source d)
  pub within : IsWithin source d
  pub rest : fields_bytes (drop i fs) (drop i (map (meaning source) values)) ≡ field_bytes f (meaning source d) ++
      fields_bytes (drop (i + 1) fs) (drop (i + 1) (map (meaning source) values))

pub here : (source : List ℕ) (fs : List Field) (values : List Datum) (i : ℕ) (f : Field) (d : Datum)
    → AllFit fs (map (meaning source) values) → All (IsWithin source) values
    → i < length fs → d ≡ get_or values i d → Here source fs values i (get_or fs i f) d
here source fs values i f0 d fit within lt d-is =
    let f = get_or fs i f0 in
    let ms = map (meaning source) values in
    let many : length fs ≡ length values = fit_long fs ms fit ∙ length-map values (meaning source) in
    let lt' : i < length values = omega arith in
    let lt'' : i < length ms = omega (arith, length-map values (meaning source)) in
    let next : suc i ≡ i + 1 = omega arith in
    let fs-is : drop i fs ≡ f ∷ drop (i + 1) fs = fields_from fs i f0 lt in
    let m-is : get_or ms i (meaning source d) ≡ meaning source d = get_or-map (meaning source) values i d (meaning source d) lt' ∙ ap (meaning source) (sym d-is) in
    let ms-is : drop i ms ≡ meaning source d ∷ drop (i + 1) ms = drop-cons ms i (meaning source d) lt'' ∙ ap (λ (x : Meaning). x ∷ drop (suc i) ms) m-is ∙ ap (λ (j : ℕ). meaning source d ∷ drop j ms) next in
    let cut : AllFit (f ∷ drop (i + 1) fs) (meaning source d ∷ drop (i + 1) ms) = subst (λ (x : List Field). AllFit x (meaning source d ∷ drop (i + 1) ms)) fs-is (subst (AllFit (drop i fs)) ms-is (fit_drop i fs ms fit)) in
    record {
      fits = cut.0;
      within = subst (IsWithin source) (sym d-is) (All-get_or (IsWithin source) values i d lt' within);
      rest = ap (λ (x : List Field). fields_bytes x (drop i ms)) fs-is ∙ ap (fields_bytes (f ∷ drop (i + 1) fs)) ms-is;
    }

-- the length so far and what is left of it
pub len_more : (source : List ℕ) (fs : List Field) (values : List Datum) (i : ℕ) (f : Field) (d : Datum) (len total : ℕ)
    → Here source fs values i f d
    → len + length (fields_bytes (drop i fs) (drop i (map (meaning source) values))) ≡ total
    → (len + length (field_bytes f (meaning source d)))
    + length (fields_bytes (drop (i + 1) fs) (drop (i + 1) (map (meaning source) values))) ≡ total
len_more source fs values i f d len total h e =
    omega (arith, e, ap length h.rest, length-append (field_bytes f (meaning source d)) (fields_bytes (drop (i + 1) fs) (drop (i + 1) (map (meaning source) values))))

pub piece_fits : (source : List ℕ) (fs : List Field) (values : List Datum) (i : ℕ) (f : Field) (d : Datum)
    (len total : ℕ) → Here source fs values i f d
    → len + length (fields_bytes (drop i fs) (drop i (map (meaning source) values))) ≡ total
    → len + length (field_bytes f (meaning source d)) ≤ total
piece_fits source fs values i f d len total h e =
    omega (arith, e, ap length h.rest, length-append (field_bytes f (meaning source d)) (fields_bytes (drop (i + 1) fs) (drop (i + 1) (map (meaning source) values))))

-- the bytes so far and what is left of them
pub bytes_more : (source : List ℕ) (fs : List Field) (values : List Datum) (i : ℕ) (f : Field) (d : Datum)
    (out out' whole : List ℕ) → Here source fs values i f d
    → out' ≡ out ++ field_bytes f (meaning source d)
    → out ++ fields_bytes (drop i fs) (drop i (map (meaning source) values)) ≡ whole
    → out' ++ fields_bytes (drop (i + 1) fs) (drop (i + 1) (map (meaning source) values)) ≡ whole
bytes_more source fs values i f d out out' whole h put e =
    let rest = fields_bytes (drop (i + 1) fs) (drop (i + 1) (map (meaning source) values)) in
    ap (λ (y : List ℕ). y ++ rest) put ∙ append_assoc out (field_bytes f (meaning source d)) rest ∙ ap (λ (y : List ℕ). out ++ y) (sym h.rest) ∙ e

pub bytes_fit : (source : List ℕ) (fs : List Field) (values : List Datum) (i : ℕ) (f : Field) (d : Datum)
    (out old total : List ℕ) (cap : ℕ) → Here source fs values i f d
    → out ++ fields_bytes (drop i fs) (drop i (map (meaning source) values)) ≡ old ++ total
    → length old + length total ≤ cap → length out + length (field_bytes f (meaning source d)) ≤ cap
bytes_fit source fs values i f d out old total cap h e room =
    let rest = fields_bytes (drop (i + 1) fs) (drop (i + 1) (map (meaning source) values)) in
    omega (arith, room, ap length e, length-append out (fields_bytes (drop i fs) (drop i (map (meaning source) values))), length-append old total, ap length h.rest, length-append (field_bytes f (meaning source d)) rest)

pub layout_small : (tag : ℕ) (fs : List Field) (ms : List Meaning) → AllFit fs ms → length fs ≤ 8
    → length (layout_bytes tag fs ms) < 2 ^ 60
layout_small tag fs ms fit le = omega (arith, fields_small fs ms fit)

-- ---- reading

-- what was read before, and what is still read
abbrev pub with_front : List Datum → Option (List Datum × ℕ) → Option (List Datum × ℕ)
with_front front o = o >>= λ x. Some (front ++ x.0, x.1)
