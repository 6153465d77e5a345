-- The gate log: a version, in version 2 a generation, then records behind open gates, then a closed gate and whatever
-- stands behind it.
use Rattle.std.specs.Prelude.{◌≡◌, ◌≢◌, ℕ, zero, suc, ◌+◌, ◌<◌, ◌≤◌, ◌==◌, ◌&&◌, ◌||◌, true, nat_le, nat_lt, Bool, List, [], ◌∷◌, ◌++◌, length, take, drop, slice_index, Option, Some, None, Result, Ok, Err, if◌then◌else◌}
use Rattle.std.specs.Int.{w16, w64, to_be_bytes, from_be_bytes}
use Rattle.score_base.specs.declared.records.Record.{Record}
use Rattle.journal_records.specs.Records.{decode_of}

-- the length that stands behind an open gate
unfoldable pub body_length : List ℕ → ℕ
body_length bytes = from_be_bytes w16 (take 2 bytes)

-- whether a whole length from 1 to 4,096, a body of that length and a next gate stand here
abbrev pub has_body : List ℕ → Bool
has_body bytes =
    nat_le 1 (body_length bytes) && nat_le (body_length bytes) 4096 && nat_lt (body_length bytes + 2) (length bytes)

abbrev pub sized : ℕ → Option Record → Option (Record × ℕ)
sized n None = None
sized n (Some record') = Some (record', n)

-- the record behind an open gate, and how many bytes stand up to the next gate; none where no such block stands here
unfoldable pub block_at : List ℕ → Option (Record × ℕ)
block_at bytes =
    if has_body bytes then sized (body_length bytes + 2) (decode_of (take (body_length bytes) (drop 2 bytes))) else None

-- these records in front of those that are read
abbrev pub with_front : List Record → Result (List Record) ℕ → Result (List Record) ℕ
with_front front (Ok records) = Ok (front ++ records)
with_front front (Err place) = Err place

-- what an open gate at this place gives: the record of its block in front of what is read behind the block; where no
-- block
-- follows, the place is at fault
abbrev pub opened : ℕ → Option (Record × ℕ) → (ℕ → Result (List Record) ℕ) → Result (List Record) ℕ
opened place None next = Err place
opened place (Some block) next = with_front (block.0 ∷ []) (next block.1)

-- What is read from this place on: the bytes of a block that was read are skipped, an open gate gives its record, and a
-- closed gate ends the log.
unfoldable pub log_from : ℕ → ℕ → List ℕ → Result (List Record) ℕ
log_from place skip [] = Ok []
log_from place (suc skip) (byte ∷ rest) = log_from (place + 1) skip rest
log_from place zero (gate ∷ rest) =
    if gate == 1 then opened place (block_at rest) (λ n. log_from (place + 1) n rest) else Ok []

-- a file of at least ten bytes whose byte 0 is 2 is of version 2
abbrev pub has_generation : List ℕ → Bool
has_generation bytes = nat_le 10 (length bytes) && (slice_index bytes 0 == 2)

-- the generation of a file of version 2; every other file has none
unfoldable pub generation : List ℕ → Option ℕ
generation bytes = if has_generation bytes then Some (from_be_bytes w64 (take 8 (drop 1 bytes))) else None

-- whether the file is of version 2 or has the byte of version 1
abbrev pub has_version : List ℕ → Bool
has_version bytes = has_generation bytes || (slice_index bytes 0 == 1)

-- the place of the first gate: behind the generation of a file that has one, else behind the version
unfoldable pub first_gate : List ℕ → ℕ
first_gate bytes = if has_generation bytes then 9 else 1

-- the file has a version, and this is the place of its first gate
pub record HasGateAt (bytes : List ℕ) (first : ℕ) : Type 0 where
  pub version : has_version bytes ≡ true
  pub gate : first_gate bytes ≡ first

-- The log of a file: its records in the order of time, or the first place at fault. A file of at most two bytes holds
-- none.
unfoldable pub log : List ℕ → Result (List Record) ℕ
log bytes =
    if nat_le (length bytes) 2 then Ok []
    else (if has_version bytes then log_from (first_gate bytes) 0 (drop (first_gate bytes) bytes) else Err 0)

-- the records of a log that has no fault
abbrev pub records_of : Result (List Record) ℕ → List Record
records_of (Ok records) = records
records_of (Err place) = []

-- Before any rest, these bytes are open gates with the blocks of these records behind them.
pub record Spells (front : List ℕ) (records : List Record) : Type 0 where
  pub read : (place : ℕ) (rest : List ℕ) → 0 < length rest
      → log_from place 0 (front ++ rest) ≡ with_front records (log_from (place + length front) 0 rest)

-- The bytes are a log of these records, and its closed gate stands at this place.
pub record IsLog (bytes : List ℕ) (records : List Record) (gate : ℕ) : Type 0 where
  pub version : has_version bytes ≡ true
  pub place : first_gate bytes ≤ gate
  pub within : gate < length bytes
  pub closed : slice_index bytes gate ≢ 1
  pub spelled : Spells (drop (first_gate bytes) (take gate bytes)) records

-- a length of two bytes, and the body
unfoldable pub framed : List ℕ → List ℕ
framed body = to_be_bytes w16 (length body) ++ body
