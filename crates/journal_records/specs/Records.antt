-- Records of a journal: their tables, their one spelling, and what a body says.
use Rattle.std.specs.Prelude.{◌≡◌, ℕ, ◌≤◌, ◌<◌, ◌^◌, ◌==◌, List, [], ◌∷◌, length, slice_range, Option, Some, None, option_map, if◌then◌else◌}
use Rattle.std.specs.List.Sorted.{IsStrictlyIncreasing}
use Rattle.score_base.specs.declared.causes.Outcome.{Outcome}
use Rattle.score_base.specs.declared.records.Record.{Record}
use Rattle.score_base.specs.declared.records.Record.TheVariants.{Prepared, Ended, Ceiling, Decided, Closed}
use Rattle.score_fields.specs.declared.fields.Field.{Field}
use Rattle.score_fields.specs.declared.fields.Field.TheVariants as field
use Rattle.score_fields.specs.declared.fields.Datum.{Datum}
use Rattle.score_fields.specs.Spelling.{IsTx, IsNode, AreNodes, nodes_bytes, AreKeys, keys_bytes, AreWrites, writes_bytes, IsOutcome, outcome_bytes}
use Rattle.score_fields.specs.Reading.{◌>>=◌, first_within, first_tx, first_eight, first_nodes, first_keys, first_writes, first_outcome}
use Rattle.score_fields.specs.Fields.{Meaning, Number, Bytes, meaning, IsWithin, Fits, layout_bytes}

-- the tag of a record's kind
abbrev pub tag_of : Record → ℕ
tag_of (Prepared t home parts sid p reads writes) = 1
tag_of (Ended t outcome) = 2
tag_of (Ceiling c) = 3
tag_of (Decided t f parts) = 4
tag_of (Closed t) = 5

-- the table of a record's kind
abbrev pub fields_of : Record → List Field
fields_of (Prepared t home parts sid p reads writes) =
    field.Tx ∷ field.Node ∷ field.Nodes ∷ field.U64 ∷ field.U64 ∷ field.Keys ∷ field.Writes ∷ []
fields_of (Ended t outcome) = field.Tx ∷ field.Outcome ∷ []
fields_of (Ceiling c) = field.U64 ∷ []
fields_of (Decided t f parts) = field.Tx ∷ field.U64 ∷ field.Nodes ∷ []
fields_of (Closed t) = field.Tx ∷ []

-- what a record's fields mean
abbrev pub meanings_of : Record → List Meaning
meanings_of (Prepared t home parts sid p reads writes) =
    Number t ∷ Number home ∷ Bytes (nodes_bytes parts) ∷ Number sid ∷ Number p
    ∷ Bytes (keys_bytes reads) ∷ Bytes (writes_bytes writes) ∷ []
meanings_of (Ended t outcome) = Number t ∷ Bytes (outcome_bytes outcome) ∷ []
meanings_of (Ceiling c) = Number c ∷ []
meanings_of (Decided t f parts) = Number t ∷ Number f ∷ Bytes (nodes_bytes parts) ∷ []
meanings_of (Closed t) = Number t ∷ []

-- the one spelling of a record: its tag, and its fields one behind the other
unfoldable pub record_bytes : Record → List ℕ
record_bytes r = layout_bytes (tag_of r) (fields_of r) (meanings_of r)

-- the records: numbers in their ranges, 1 to 16 rising parts, at most 32 keys and at most 32 writes
unfoldable pub IsRecord : Record → Type 0
IsRecord (Prepared t home parts sid p reads writes) =
    IsTx t × IsNode home × AreNodes parts × (sid < 2 ^ 64) × (p < 2 ^ 64) × AreKeys reads × AreWrites writes
IsRecord (Ended t outcome) = IsTx t × IsOutcome outcome
IsRecord (Ceiling c) = c < 2 ^ 64
IsRecord (Decided t f parts) = IsTx t × (f < 2 ^ 64) × AreNodes parts
IsRecord (Closed t) = IsTx t

-- two values, one behind the other
abbrev pub first_both : {A B : Type 0} → (List ℕ → Option (A × List ℕ)) → (List ℕ → Option (B × List ℕ)) → List ℕ
    → Option ((A × B) × List ℕ)
first_both first second bytes = first bytes >>= λ a. second a.1 >>= λ b. Some ((a.0, b.0), b.1)

-- a value with nothing behind it
abbrev pub whole : {A : Type 0} → Option (A × List ℕ) → Option A
whole None = None
whole (Some x) = if length x.1 == 0 then Some x.0 else None

-- what stands behind the tag of each kind
abbrev pub first_prepared : List ℕ
    → Option ((ℕ × (ℕ × (List ℕ × (ℕ × (ℕ × (List (List ℕ) × List (List ℕ × ℕ))))))) × List ℕ)
first_prepared bytes =
    first_both first_tx (first_both (first_within 1 16)
    (first_both first_nodes (first_both first_eight (first_both first_eight (first_both first_keys first_writes)))))
    bytes

abbrev pub first_ended : List ℕ → Option ((ℕ × Outcome) × List ℕ)
first_ended bytes = first_both first_tx first_outcome bytes

abbrev pub first_decided : List ℕ → Option ((ℕ × (ℕ × List ℕ)) × List ℕ)
first_decided bytes = first_both first_tx (first_both first_eight first_nodes) bytes

abbrev pub as_prepared : ℕ × (ℕ × (List ℕ × (ℕ × (ℕ × (List (List ℕ) × List (List ℕ × ℕ)))))) → Record
as_prepared (t, (home, (parts, (sid, (p, (reads, writes)))))) = Prepared t home parts sid p reads writes

abbrev pub as_ended : ℕ × Outcome → Record
as_ended (t, outcome) = Ended t outcome

abbrev pub as_decided : ℕ × (ℕ × List ℕ) → Record
as_decided (t, (f, parts)) = Decided t f parts

-- the record that a body is the spelling of, whole
unfoldable pub decode_of : List ℕ → Option Record
decode_of [] = None
decode_of (tag ∷ body) =
    if tag == 1 then option_map as_prepared (whole (first_prepared body))
    else if tag == 2 then option_map as_ended (whole (first_ended body))
    else if tag == 3 then option_map Ceiling (whole (first_eight body))
    else if tag == 4 then option_map as_decided (whole (first_decided body))
    else if tag == 5 then option_map Closed (whole (first_tx body))
    else None

-- what the caller of `encode` sees to: 1 to 16 rising parts, at most 32 keys and at most 32 writes
abbrev pub CanEncode : Record → Type 0
CanEncode (Prepared t home parts sid p reads writes) =
    (1 ≤ length parts) × (length parts ≤ 16) × IsStrictlyIncreasing parts × (length reads ≤ 32) × (length writes ≤ 32)
CanEncode (Decided t f parts) = (1 ≤ length parts) × (length parts ≤ 16) × IsStrictlyIncreasing parts
CanEncode r = Unit {0}

-- a datum stands in a body for a field of this kind
abbrev pub Stands : List ℕ → Field → Datum → Type 0
Stands body f d = Fits f (meaning body d) × IsWithin body d

-- the lists stand one behind the other, the second and the third from these places on
pub record AreSpelled (parts : List ℕ) (reads : List (List ℕ)) (writes : List (List ℕ × ℕ)) (bytes : List ℕ)
    (reads_at writes_at : ℕ) : Type 0 where
  pub parts_are : AreNodes parts
  pub reads_are : AreKeys reads
  pub writes_are : AreWrites writes
  pub order : reads_at ≤ writes_at
  pub within : writes_at ≤ length bytes
  pub parts_there : slice_range bytes 0 reads_at ≡ nodes_bytes parts
  pub reads_there : slice_range bytes reads_at writes_at ≡ keys_bytes reads
  pub writes_there : slice_range bytes writes_at (length bytes) ≡ writes_bytes writes
