-- The fields of a table, and the layouts that are made of them.
use Rattle.std.specs.Prelude.{◌≡◌, ℕ, ◌+◌, ◌-◌, ◌≤◌, ◌<◌, ◌^◌, List, [], ◌∷◌, ◌++◌, length, map, take, drop, slice_range, Option, Some, None, All}
use Rattle.score_fields.specs.declared.fields.Field.{Field}
use Rattle.score_fields.specs.declared.fields.Field.TheVariants as field
use Rattle.score_fields.specs.declared.fields.Datum.{Datum}
use Rattle.score_fields.specs.declared.fields.Datum.TheVariants as datum
use Rattle.score_fields.specs.Spelling.{IsSpelling, two_bytes, eight_bytes, key_bytes, IsNode, IsTx, IsKey, AreNodes, nodes_bytes, AreKeys, keys_bytes, AreWrites, writes_bytes, IsOutcome, outcome_bytes, IsBallot, ballot_bytes, IsDate, date_bytes}
use Rattle.score_fields.specs.Reading.{◌>>=◌, first_within, first_tx, first_eight, first_key, first_nodes, first_keys, first_writes, first_outcome, first_ballot, first_date}

-- what a datum means, wherever its bytes lie
pub data Meaning : Type 0 where
  Number : ℕ → Meaning
  Key : List ℕ → Meaning
  Bytes : List ℕ → Meaning

-- a span means the bytes that stand there
abbrev pub meaning : List ℕ → Datum → Meaning
meaning source (datum.Number n) = Number n
meaning source (datum.Key key) = Key key
meaning source (datum.Span start end) = Bytes (slice_range source start end)

-- a span lies in the bytes
abbrev pub IsWithin : List ℕ → Datum → Type 0
IsWithin source (datum.Number n) = Unit {0}
IsWithin source (datum.Key key) = Unit {0}
IsWithin source (datum.Span start end) = (start ≤ end) × (end ≤ length source)

-- what a field of this kind may mean
abbrev pub Fits : Field → Meaning → Type 0
Fits field.U8 (Number n) = n < 2 ^ 8
Fits field.U64 (Number n) = n < 2 ^ 64
Fits field.Op (Number n) = (1 ≤ n) × (n ≤ 32)
Fits field.Tx (Number n) = IsTx n
Fits field.Node (Number n) = IsNode n
Fits field.Key (Key key) = IsKey key
Fits field.Nodes (Bytes bytes) = IsSpelling AreNodes nodes_bytes bytes
Fits field.Keys (Bytes bytes) = IsSpelling AreKeys keys_bytes bytes
Fits field.Writes (Bytes bytes) = IsSpelling AreWrites writes_bytes bytes
Fits field.Outcome (Bytes bytes) = IsSpelling IsOutcome outcome_bytes bytes
Fits field.Ballot (Bytes bytes) = IsSpelling IsBallot ballot_bytes bytes
Fits field.Date (Bytes bytes) = IsSpelling IsDate date_bytes bytes
Fits f m = ⊥

-- the spelling of a number in a field of this kind
abbrev pub number_bytes : Field → ℕ → List ℕ
number_bytes field.U64 n = eight_bytes n
number_bytes field.Tx n = two_bytes n
number_bytes f n = n ∷ []

-- the spelling of what a field of this kind means
abbrev pub field_bytes : Field → Meaning → List ℕ
field_bytes f (Number n) = number_bytes f n
field_bytes f (Key key) = key_bytes key
field_bytes f (Bytes bytes) = bytes

-- each meaning is one of its field, and there are as many
abbrev pub AllFit : List Field → List Meaning → Type 0
AllFit [] [] = Unit {0}
AllFit [] (m ∷ ms) = ⊥
AllFit (f ∷ fs) [] = ⊥
AllFit (f ∷ fs) (m ∷ ms) = Fits f m × AllFit fs ms

-- one field behind the other
abbrev pub fields_bytes : List Field → List Meaning → List ℕ
fields_bytes [] ms = []
fields_bytes (f ∷ fs) [] = []
fields_bytes (f ∷ fs) (m ∷ ms) = field_bytes f m ++ fields_bytes fs ms

-- the spelling of a layout: its tag and its fields
abbrev pub layout_bytes : ℕ → List Field → List Meaning → List ℕ
layout_bytes tag fields ms = tag ∷ fields_bytes fields ms

-- the datum of a meaning that stands at this place
abbrev pub datum_at : ℕ → Meaning → Datum
datum_at place (Number n) = datum.Number n
datum_at place (Key key) = datum.Key key
datum_at place (Bytes bytes) = datum.Span place (place + length bytes)

-- the data of meanings that are spelled one behind the other from this place on
abbrev pub data_at : ℕ → List Field → List Meaning → List Datum
data_at place [] ms = []
data_at place (f ∷ fs) [] = []
data_at place (f ∷ fs) (m ∷ ms) = datum_at place m ∷ data_at (place + length (field_bytes f m)) fs ms

-- What was taken from the front of the bytes: the first `used` of them are the spelling of what the
-- values mean there, and each span is where its bytes stand in that spelling.
pub record IsTaken (tag : ℕ) (fields : List Field) (bytes : List ℕ) (values : List Datum) (used : ℕ) : Type 0 where
  pub within : used ≤ length bytes
  pub spans : All (IsWithin bytes) values
  pub fits : AllFit fields (map (meaning bytes) values)
  pub spelled : take used bytes ≡ layout_bytes tag fields (map (meaning bytes) values)
  pub placed : values ≡ data_at 1 fields (map (meaning bytes) values)

-- a value read first, as the bytes that spell it
abbrev pub as_bytes : {A : Type 0} → List ℕ → Option (A × List ℕ) → Option (Meaning × List ℕ)
as_bytes bytes None = None
as_bytes bytes (Some x) = Some (Bytes (take (length bytes - length x.1) bytes), x.1)

abbrev pub as_number : Option (ℕ × List ℕ) → Option (Meaning × List ℕ)
as_number None = None
as_number (Some x) = Some (Number x.0, x.1)

abbrev pub as_key : Option (List ℕ × List ℕ) → Option (Meaning × List ℕ)
as_key None = None
as_key (Some x) = Some (Key x.0, x.1)

-- what a field of this kind means that stands first
unfoldable pub first_field : Field → List ℕ → Option (Meaning × List ℕ)
first_field field.U8 bytes = as_number (first_within 0 255 bytes)
first_field field.U64 bytes = as_number (first_eight bytes)
first_field field.Op bytes = as_number (first_within 1 32 bytes)
first_field field.Tx bytes = as_number (first_tx bytes)
first_field field.Node bytes = as_number (first_within 1 16 bytes)
first_field field.Key bytes = as_key (first_key bytes)
first_field field.Nodes bytes = as_bytes bytes (first_nodes bytes)
first_field field.Keys bytes = as_bytes bytes (first_keys bytes)
first_field field.Writes bytes = as_bytes bytes (first_writes bytes)
first_field field.Outcome bytes = as_bytes bytes (first_outcome bytes)
first_field field.Ballot bytes = as_bytes bytes (first_ballot bytes)
first_field field.Date bytes = as_bytes bytes (first_date bytes)

-- what the fields mean that stand first, one behind the other
abbrev pub first_fields : List Field → List ℕ → Option (List Meaning × List ℕ)
first_fields [] bytes = Some ([], bytes)
first_fields (f ∷ fs) bytes = first_field f bytes >>= λ m. first_fields fs m.1 >>= λ ms. Some (m.0 ∷ ms.0, ms.1)

-- the datum of what stands at this place, and the place behind it
abbrev pub placed : ℕ → List ℕ → Option (Meaning × List ℕ) → Option (Datum × ℕ)
placed place bytes None = None
placed place bytes (Some x) = Some (datum_at place x.0, length bytes - length x.1)

-- the datum of a field at this place
abbrev pub datum_from : Field → ℕ → List ℕ → Option (Datum × ℕ)
datum_from f place bytes = placed place bytes (first_field f (drop place bytes))

-- the data of fields from this place on
abbrev pub data_from : List Field → ℕ → List ℕ → Option (List Datum × ℕ)
data_from [] place bytes = Some ([], place)
data_from (f ∷ fs) place bytes =
    datum_from f place bytes >>= λ d. data_from fs d.1 bytes >>= λ ds. Some (d.0 ∷ ds.0, ds.1)
