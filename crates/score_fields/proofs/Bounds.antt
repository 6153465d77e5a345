-- How long a spelling can be.
use Rattle.std.proofs.Common.{ℕ, ◌*◌, ◌≤◌, ◌&&◌, not, leb, List, [], ◌∷◌, length, ap, arith, length-append}
use Rattle.std.specs.List.{flat_map, AllByRecursion, list_all}
use Rattle.std.proofs.lemmas.Bool.{leb-true, and_parts}
use Rattle.std.proofs.lemmas.List.Concat.{flat_map-cons}
use Rattle.score_base.specs.Keys.{is_key_byte, is_digit}
use Rattle.score_base.specs.declared.causes.Outcome.{Outcome}
use Rattle.score_base.specs.declared.causes.Outcome.TheVariants.{Commit, Abort}
use Rattle.score_base.specs.declared.causes.Cause.TheVariants.{Holder, Newer}
use Rattle.score_base.specs.declared.causes.Ballot.{Ballot}
use Rattle.score_base.specs.declared.causes.Ballot.TheVariants.{Yes, No}
use Rattle.score_base.specs.declared.causes.Date.{Date}
use Rattle.score_base.specs.declared.causes.Date.TheVariants.{First, At}
use Rattle.score_fields.specs.declared.fields.Field.{Field}
use Rattle.score_fields.specs.declared.fields.Field.TheVariants as field
use Rattle.score_fields.specs.Spelling.{IsKey, key_bytes, AreNodes, nodes_bytes, AreKeys, keys_bytes, IsWrite, write_bytes, AreWrites, writes_bytes, outcome_bytes, IsBallot, ballot_bytes, date_bytes}
use Rattle.score_fields.specs.Fields.{Meaning, Number, Key, Bytes, Fits, field_bytes, AllFit, fields_bytes}
use Rattle.score_fields.proofs.Lengths.{length-two_bytes, length-eight_bytes, length-write_bytes}

pub key_small : (key : List ℕ) → IsKey key → length key ≤ 32
key_small [] is = absurd cc
key_small (b ∷ bs) is =
    let p = and_parts (not (is_digit b) && is_key_byte b && leb (length bs) 31) (list_all is_key_byte bs) is in
    let q = and_parts (not (is_digit b) && is_key_byte b) (leb (length bs) 31) p.0 in
    omega (arith, leb-true (length bs) 31 q.1)

-- members of at most this many bytes each
members_small : {A : Type 0} (Is : A → Type 0) (f : A → List ℕ) (most : ℕ) → ((x : A) → Is x → length (f x) ≤ most)
    → (xs : List A) → AllByRecursion Is xs → length (flat_map f xs) ≤ most * length xs
members_small Is f most small [] each = omega arith
members_small Is f most small (x ∷ xs) each =
    let more = members_small Is f most small xs each.1 in
    omega (arith, ap length (flat_map-cons f x xs), length-append (f x) (flat_map f xs), small x each.0, more)

pub nodes_small : (nodes : List ℕ) → AreNodes nodes → length (nodes_bytes nodes) ≤ 17
nodes_small nodes are = omega (arith, are.most)

pub keys_small : (keys : List (List ℕ)) → AreKeys keys → length (keys_bytes keys) ≤ 1057
keys_small keys are = omega (arith, are.most, members_small IsKey key_bytes 33 (λ key is. omega (arith, key_small key is)) keys are.each)

pub writes_small : (writes : List (List ℕ × ℕ)) → AreWrites writes → length (writes_bytes writes) ≤ 1313
writes_small writes are = omega (arith, are.most, members_small IsWrite write_bytes 41 (λ write is. omega (arith, key_small write.0 is.0, length-write_bytes write.0 write.1)) writes are.each)

pub outcome_small : (o : Outcome) → length (outcome_bytes o) ≤ 9
outcome_small (Commit f) = omega (arith, length-eight_bytes f)
outcome_small Abort = omega arith

pub ballot_small : (v : Ballot) → IsBallot v → length (ballot_bytes v) ≤ 42
ballot_small (Yes p) is = omega (arith, length-eight_bytes p)
ballot_small (No (Holder t)) is = omega (arith, length-two_bytes t)
ballot_small (No (Newer key f)) is = omega (arith, length-write_bytes key f, key_small key is.0)

pub date_small : (d : Date) → length (date_bytes d) ≤ 9
date_small (First sid) = omega (arith, length-eight_bytes sid)
date_small (At sid) = omega (arith, length-eight_bytes sid)

pub field_small : (f : Field) (m : Meaning) → Fits f m → length (field_bytes f m) ≤ 1313
field_small field.U8 (Number n) h = omega arith
field_small field.U64 (Number n) h = omega (arith, length-eight_bytes n)
field_small field.Op (Number n) h = omega arith
field_small field.Tx (Number n) h = omega (arith, length-two_bytes n)
field_small field.Node (Number n) h = omega arith
field_small field.Key (Key key) h = omega (arith, key_small key h)
field_small field.Nodes (Bytes bytes) h = omega (arith, ap length h.spelled, nodes_small h.value h.fits)
field_small field.Keys (Bytes bytes) h = omega (arith, ap length h.spelled, keys_small h.value h.fits)
field_small field.Writes (Bytes bytes) h = omega (arith, ap length h.spelled, writes_small h.value h.fits)
field_small field.Outcome (Bytes bytes) h = omega (arith, ap length h.spelled, outcome_small h.value)
field_small field.Ballot (Bytes bytes) h = omega (arith, ap length h.spelled, ballot_small h.value h.fits)
field_small field.Date (Bytes bytes) h = omega (arith, ap length h.spelled, date_small h.value)
field_small f m h = absurd h

pub fields_small : (fs : List Field) (ms : List Meaning) → AllFit fs ms → length (fields_bytes fs ms) ≤ 1313 * length fs
fields_small [] ms fit = omega arith
fields_small (f ∷ fs) [] fit = absurd fit
fields_small (f ∷ fs) (m ∷ ms) fit =
    let more = fields_small fs ms fit.1 in
    omega (arith, length-append (field_bytes f m) (fields_bytes fs ms), field_small f m fit.0, more)
