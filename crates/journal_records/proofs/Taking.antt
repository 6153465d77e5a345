-- What a table took from a body, against what the body says.
use Rattle.std.proofs.Common.{◌≡◌, ℕ, suc, ◌+◌, ◌==◌, ◌<◌, ◌≤◌, if◌then◌else◌, List, [], ◌∷◌, ◌++◌, length, get_or, drop, map, Option, Some, None, Result, Ok, Err, IfOk, IfSome, IfNone, refl, sym, ap, subst, ◌∙◌, arith}
use Rattle.std.proofs.Math.Seq.{drop-cons}
use Rattle.std.proofs.lemmas.List.{append-nil, drop_all, take_all, length-map}
use Rattle.std.proofs.lemmas.Bool.{ne_eqb}
use Rattle.score_base.specs.declared.memory.Memory.{Memory}
use Rattle.score_base.specs.declared.records.Record.{Record}
use Rattle.score_base.specs.declared.records.Record.TheVariants.{Prepared, Ended, Ceiling, Decided, Closed}
use Rattle.score_fields.specs.declared.fields.Field.{Field}
use Rattle.score_fields.specs.declared.fields.Field.TheVariants as field
use Rattle.score_fields.specs.declared.fields.Datum.{Datum}
use Rattle.score_fields.specs.Spelling.{IsBytes}
use Rattle.score_fields.specs.Fields.{Meaning, meaning, AllFit, layout_bytes, IsTaken}
use Rattle.score_fields.proofs.TableLoops.{fit_long}
use Rattle.journal_records.specs.Records.{CanEncode, record_bytes, IsRecord, tag_of, fields_of, meanings_of, decode_of}
use Rattle.journal_records.proofs.RecordCodec.{decode_again, decode_takes}

-- the tables by their tags
abbrev pub table : ℕ → List Field
table tag =
    if tag == 1 then field.Tx ∷ field.Node ∷ field.Nodes ∷ field.U64 ∷ field.U64 ∷ field.Keys ∷ field.Writes ∷ []
    else if tag == 2 then field.Tx ∷ field.Outcome ∷ [] else if tag == 3 then field.U64 ∷ [] else if tag == 4
    then field.Tx ∷ field.U64 ∷ field.Nodes ∷ [] else field.Tx ∷ []

fields_are : (r : Record) → fields_of r ≡ table (tag_of r)
fields_are (Prepared t home parts sid p reads writes) = refl
fields_are (Ended t outcome) = refl
fields_are (Ceiling c) = refl
fields_are (Decided t f parts) = refl
fields_are (Closed t) = refl

-- what a record's fields mean fits its table
pub record_fits : (r : Record) → IsRecord r → AllFit (fields_of r) (meanings_of r)
unfolding IsRecord
record_fits (Prepared t home parts sid p reads writes) is =
    (is.0, (is.1, (record { value = parts; fits = is.2; spelled = refl }, (is.3, (is.4, (record { value = reads; fits = is.5; spelled = refl }, (record { value = writes; fits = is.6; spelled = refl }, tt)))))))
record_fits (Ended t outcome) is = (is.0, (record { value = outcome; fits = is.1; spelled = refl }, tt))
record_fits (Ceiling c) is = (is, tt)
record_fits (Decided t f parts) is = (is.0, (is.1, (record { value = parts; fits = is.2; spelled = refl }, tt)))
record_fits (Closed t) is = (is, tt)

record_is : (r : Record) → record_bytes r ≡ layout_bytes (tag_of r) (fields_of r) (meanings_of r)
unfolding record_bytes
record_is r = refl

-- where no meanings are spelled so, whole, there is no record
pub undecoded : (tag : ℕ) (fs : List Field) (body : List ℕ) → IsBytes body → get_or body 0 0 ≡ tag → table tag ≡ fs
    → ((ms : List Meaning) → AllFit fs ms → body ≡ layout_bytes tag fs ms → ⊥) → None ≡ decode_of body
undecoded tag fs body fits first same none = by_read (decode_of body) refl where
  by_read : (o : Option Record) → decode_of body ≡ o → None ≡ decode_of body
  by_read None e = sym e
  by_read (Some r) e =
      let found = decode_takes body r fits e in
      let spelled : body ≡ layout_bytes (tag_of r) (fields_of r) (meanings_of r) = found.1 ∙ record_is r in
      let tag-is : tag_of r ≡ tag = sym (ap (λ (b : List ℕ). get_or b 0 0) spelled) ∙ first in
      let fields-is : fields_of r ≡ fs = fields_are r ∙ ap table tag-is ∙ same in
      let there : body ≡ layout_bytes tag fs (meanings_of r) = spelled ∙ ap (λ (n : ℕ). layout_bytes n (fields_of r) (meanings_of r)) tag-is ∙ ap (λ (x : List Field). layout_bytes tag x (meanings_of r)) fields-is in
      absurd (none (meanings_of r) (subst (λ (x : List Field). AllFit x (meanings_of r)) fields-is (record_fits r found.0)) there)

-- where nothing was taken
pub not_whole_front : (tag : ℕ) (fs : List Field) (body : List ℕ)
    → ((ms : List Meaning) (rest : List ℕ) → AllFit fs ms → body ≡ layout_bytes tag fs ms ++ rest → ⊥)
    → (ms : List Meaning) → AllFit fs ms → body ≡ layout_bytes tag fs ms → ⊥
not_whole_front tag fs body none ms fit e = none ms [] fit (e ∙ sym (append-nil (layout_bytes tag fs ms)))

-- where something is behind what was taken
pub not_whole_more : (tag : ℕ) (fs : List Field) (body : List ℕ) (values : List Meaning → List Datum)
    (taken : List Datum) (used : ℕ)
    → ((ms : List Meaning) (rest : List ℕ) → AllFit fs ms → body ≡ layout_bytes tag fs ms ++ rest
    → (taken ≡ values ms) × (used ≡ length (layout_bytes tag fs ms))) → (used ≡ length body → ⊥)
    → (ms : List Meaning) → AllFit fs ms → body ≡ layout_bytes tag fs ms → ⊥
not_whole_more tag fs body values taken used again more ms fit e = more ((again ms [] fit (e ∙ sym (append-nil (layout_bytes tag fs ms)))).1 ∙ sym (ap length e))

-- where all of it was taken
pub decoded : (r : Record) (body : List ℕ) (values : List Datum)
    → IsTaken (tag_of r) (fields_of r) body values (length body) → map (meaning body) values ≡ meanings_of r
    → IsRecord r → Some r ≡ decode_of body
decoded r body values taken means is =
    let whole : body ≡ record_bytes r = sym (take_all (length body) body (omega arith)) ∙ taken.spelled ∙ ap (layout_bytes (tag_of r) (fields_of r)) means ∙ sym (record_is r) in
    sym (ap decode_of whole ∙ decode_again r is)

-- ---- the values one by one

pub value_more : (body : List ℕ) (values : List Datum) (k : ℕ) (d : Datum) (m : Meaning) (ms : List Meaning)
    → k < length values → meaning body (get_or values k d) ≡ m
    → map (meaning body) (drop (k + 1) values) ≡ ms → map (meaning body) (drop k values) ≡ m ∷ ms
value_more body values k d m ms lt means more =
    let next : suc k ≡ k + 1 = omega arith in
    let v : Datum = get_or values k d in
    let here : drop k values ≡ v ∷ drop (k + 1) values = drop-cons values k d lt ∙ ap (λ (j : ℕ). v ∷ drop j values) next in
    ap (map (meaning body)) here ∙ ap (λ (x : Meaning). x ∷ map (meaning body) (drop (k + 1) values)) means ∙ ap (λ (xs : List Meaning). m ∷ xs) more

pub values_end : (body : List ℕ) (values : List Datum) (k : ℕ) → length values ≤ k
    → map (meaning body) (drop k values) ≡ []
values_end body values k le = ap (map (meaning body)) (drop_all k values le)

pub many_values : (tag : ℕ) (fs : List Field) (body : List ℕ) (values : List Datum) (used : ℕ)
    → IsTaken tag fs body values used → length values ≡ length fs
many_values tag fs body values used taken = sym (fit_long fs (map (meaning body) values) taken.fits ∙ length-map values (meaning body))

-- ---- every tag

-- where the first byte is no tag of a record
pub no_tag : (body : List ℕ) → (get_or body 0 0 ≡ 1 → ⊥) → (get_or body 0 0 ≡ 2 → ⊥) → (get_or body 0 0 ≡ 3 → ⊥)
    → (get_or body 0 0 ≡ 4 → ⊥) → (get_or body 0 0 ≡ 5 → ⊥) → None ≡ decode_of body
unfolding decode_of
no_tag [] one two three four five = refl
no_tag (tag ∷ body) one two three four five = rw (ne_eqb tag 1 one, ne_eqb tag 2 two, ne_eqb tag 3 three, ne_eqb tag 4 four, ne_eqb tag 5 five) refl

-- no bytes are no record
pub no_body : (body : List ℕ) → length body < 1 → None ≡ decode_of body
unfolding decode_of
no_body [] none = refl
no_body (b ∷ bytes) none = absurd (omega (arith, none))

pub found_from : (body : List ℕ) (result : Result (Option Record) Memory) → IsBytes body
    → IfOk result (λ o. o ≡ decode_of body) → IfOk result (λ o. IfSome o (λ r. IsRecord r × (body ≡ record_bytes r)))
found_from body (Ok None) fits exact = tt
found_from body (Ok (Some r)) fits exact = decode_takes body r fits (sym exact)
found_from body (Err e) fits exact = tt

none_when : (body : List ℕ) → None ≡ decode_of body → (r : Record) → IsRecord r → body ≡ record_bytes r → ⊥
none_when body none r is e =
    let bad : ◌≡◌ {A = Option Record} None (Some r) = none ∙ ap decode_of e ∙ decode_again r is in
    absurd cc

pub none_from : (body : List ℕ) (result : Result (Option Record) Memory) → IfOk result (λ o. o ≡ decode_of body)
    → IfOk result (λ o. IfNone o ((r : Record) → IsRecord r → body ≡ record_bytes r → ⊥))
none_from body (Ok None) exact = none_when body exact
none_from body (Ok (Some r)) exact = tt
none_from body (Err e) exact = tt

-- a record may be encoded
pub can_encode : (r : Record) → IsRecord r → CanEncode r
unfolding IsRecord
can_encode (Prepared t home parts sid p reads writes) is = (is.2.some, is.2.most, is.2.rising, is.5.most, is.6.most)
can_encode (Ended t outcome) is = tt
can_encode (Ceiling c) is = tt
can_encode (Decided t f parts) is = (is.2.some, is.2.most, is.2.rising)
can_encode (Closed t) is = tt
