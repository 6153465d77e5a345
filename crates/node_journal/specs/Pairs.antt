-- Two files of one node: the generation of each, the live one, and the log of the pair.
use Rattle.std.specs.Prelude.{◌≡◌, ◌≢◌, ◌⊎◌, ℕ, ◌+◌, ◌<◌, ◌≤◌, false, nat_lt, Bool, true, List, [], ◌∷◌, ◌++◌, length, slice_index, Option, Some, None, Result, Ok, if◌then◌else◌}
use Rattle.std.specs.List.{flat_map}
use Rattle.std.specs.Int.{w64, to_be_bytes}
use Rattle.score_base.specs.declared.records.Record.{Record}
use Rattle.journal_records.specs.Records.{record_bytes}
use Rattle.score_disk.specs.Files.{File, IsImage, IsSettled}
use Rattle.node_journal.specs.Log.{generation, log, records_of, framed, IsLog}

-- a file with a generation is younger than one without, and one with a greater generation is younger
abbrev pub age : Option ℕ → ℕ
age None = 0
age (Some g) = g + 1

-- a file without a generation counts as generation 0
abbrev pub number_of : Option ℕ → ℕ
number_of None = 0
number_of (Some g) = g

-- of two files the second is the live one only where it is the younger
abbrev pub second_lives : List ℕ → List ℕ → Bool
second_lives first second = nat_lt (age (generation first)) (age (generation second))

-- the log of the live one of two files
unfoldable pub pair_log : List ℕ → List ℕ → Result (List Record) ℕ
pair_log first second = if second_lives first second then log second else log first

-- of the live and the other of two, each in its place: the live one is the second where the flag says so
abbrev pub in_order {ℓ} : {A : Type 0} {B : Type ℓ} → Bool → (A → A → B) → A → A → B
in_order true of live other = of other live
in_order false of live other = of live other

-- the flag tells whether the second file is the live one
abbrev pub IsLive : Bool → List ℕ → List ℕ → Type 0
IsLive second live other = in_order second second_lives live other ≡ second

-- each pair of images has this log
abbrev pub LeavesPair : List Record → File → File → Type 0
LeavesPair records first second = (c d : List ℕ) → IsImage first c → IsImage second d → pair_log c d ≡ Ok records

-- each pair of images has one of these logs
abbrev pub LeavesPairOneOf : List Record → List Record → File → File → Type 0
LeavesPairOneOf old new first second = (c d : List ℕ) → IsImage first c → IsImage second d → (pair_log c d ≡ Ok old) ⊎
    (pair_log c d ≡ Ok new)

-- the generation of the live one of two files; 0 where neither has one
abbrev pub pair_number : List ℕ → List ℕ → ℕ
pair_number first second = number_of (generation (if second_lives first second then second else first))

-- the log of two files is these records, and this is the generation of the live one
pub record HasLog (records : List Record) (number : ℕ) (first second : List ℕ) : Type 0 where
  pub log : pair_log first second ≡ Ok records
  pub number_is : pair_number first second ≡ number

-- each pair of images has this log
abbrev pub LeavesLog : List Record → ℕ → File → File → Type 0
LeavesLog records number first second =
    (a b : List ℕ) → IsImage first a → IsImage second b → HasLog records number a b

-- each pair of images has one of these logs
abbrev pub LeavesLogOr : List Record → ℕ → List Record → ℕ → File → File → Type 0
LeavesLogOr before number behind next first second =
    (a b : List ℕ) → IsImage first a → IsImage second b → HasLog before number a b ⊎ HasLog behind next a b

-- an open gate with the block of this record
unfoldable pub open_block : Record → List ℕ
open_block r = 1 ∷ framed (record_bytes r)

-- what stands behind the version in a file of version 2: its generation, its records behind open gates, a closed gate
unfoldable pub filling : ℕ → List Record → List ℕ
filling g records = to_be_bytes w64 g ++ flat_map open_block records ++ 0 ∷ []

-- the records of a file of version 2, which is given behind its version
abbrev pub listed_in : List ℕ → List Record
listed_in bytes = records_of (log (2 ∷ bytes))

-- behind a version 2 these bytes are a log, whose closed gate is the last byte
abbrev pub IsListed : List ℕ → Type 0
IsListed bytes = IsLog (2 ∷ bytes) (listed_in bytes) (length bytes)

-- no image has a generation but this one
abbrev pub LeavesStale : Option ℕ → File → Type 0
LeavesStale gen f = (c : List ℕ) → IsImage f c → (generation c ≡ None) ⊎ (generation c ≡ gen)

-- each image is these bytes, or has no generation but the old one
abbrev pub LeavesStaleOr : Option ℕ → List ℕ → File → Type 0
LeavesStaleOr gen bytes f = (c : List ℕ) → IsImage f c → ((generation c ≡ None) ⊎ (generation c ≡ gen)) ⊎ (c ≡ bytes)

-- settled, with one byte that isn't the version 2, and these behind it
pub record IsUnversioned (f : File) (rest : List ℕ) : Type 0 where
  pub settled : IsSettled f
  pub version : ℕ
  pub other : version ≢ 2
  pub seen : f.seen ≡ version ∷ rest

-- now is from, cut at this place or not, with nothing touched before it
pub record Shortened (from : File) (at : ℕ) (now : File) : Type 0 where
  pub touched : (i : ℕ) → i < at → now.touched i ≡ false
  pub least : at ≤ now.least
  pub greatest : now.greatest ≤ length from.seen
  pub same : (i : ℕ) → i < at → slice_index now.seen i ≡ slice_index from.seen i
