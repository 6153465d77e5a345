-- What the images of a file are while a log is written.
use Rattle.std.specs.Prelude.{◌≡◌, ◌≢◌, ◌⊎◌, ℕ, ◌+◌, ◌<◌, ◌≤◌, false, max, List, [], ◌∷◌, ◌++◌, length, take, slice_index, Option, Ok}
use Rattle.score_base.specs.declared.records.Record.{Record}
use Rattle.score_disk.specs.Files.{File, IsImage, IsSettled, put_at}
use Rattle.node_journal.specs.Log.{generation, log}

-- now is from, where since then nothing but n places from `at` on was touched
pub record Near (from : File) (at n : ℕ) (now : File) : Type 0 where
  pub touched : (i : ℕ) → (i < at) ⊎ (at + n ≤ i) → now.touched i ≡ false
  pub least : length from.seen ≤ now.least
  pub greatest : now.greatest ≤ max (length from.seen) (at + n)
  pub same : (i : ℕ) → (i < at) ⊎ (at + n ≤ i) → slice_index now.seen i ≡ slice_index from.seen i

-- the bytes are old up to the gate, which is closed
pub record KeepsClosed (old : List ℕ) (gate : ℕ) (bytes : List ℕ) : Type 0 where
  pub front : take gate bytes ≡ take gate old
  pub place : gate < length bytes
  pub closed : slice_index bytes gate ≢ 1

-- the bytes with the gate open, and this frame behind it
abbrev pub opened_at : List ℕ → ℕ → List ℕ → List ℕ
opened_at old gate frame = put_at (put_at old (gate + 1) frame) gate (1 ∷ [])

-- each image keeps the gate closed
abbrev pub LeavesClosed : List ℕ → ℕ → File → Type 0
LeavesClosed old gate f = (c : List ℕ) → IsImage f c → KeepsClosed old gate c

-- each image keeps the gate closed, or has it open with the frame behind it
abbrev pub LeavesOneOf : List ℕ → ℕ → List ℕ → File → Type 0
LeavesOneOf old gate frame f = (c : List ℕ) → IsImage f c → KeepsClosed old gate c ⊎ (c ≡ opened_at old gate frame)

-- the file is settled, and its log is these records
pub record IsAtRest (f : File) (records : List Record) : Type 0 where
  pub settled : IsSettled f
  pub is : log f.seen ≡ Ok records

-- each image is a log of these records
abbrev pub LeavesOld : List Record → File → Type 0
LeavesOld records f = (c : List ℕ) → IsImage f c → log c ≡ Ok records

-- each image is a log of these records, alone or with one more behind them
abbrev pub LeavesOldOrNew : List Record → Record → File → Type 0
LeavesOldOrNew records more f = (c : List ℕ) → IsImage f c → (log c ≡ Ok records) ⊎ (log c ≡ Ok (records ++ more ∷ []))

-- no image has more bytes than this
abbrev pub LeavesShort : ℕ → File → Type 0
LeavesShort most f = (c : List ℕ) → IsImage f c → length c ≤ most

-- the file is as before, or has at most two bytes, of which no image has more
abbrev pub LeavesAsBefore : File → File → Type 0
LeavesAsBefore old now = (now ≡ old) ⊎ ((length old.seen ≤ 2) × LeavesShort 2 now)

-- each image has this generation, or none
abbrev pub LeavesVersion : Option ℕ → File → Type 0
LeavesVersion gen f = (c : List ℕ) → IsImage f c → generation c ≡ gen
