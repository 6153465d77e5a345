-- What the calls of a node's two disks leave of what these show.
use Rattle.std.specs.Prelude.{◌≡◌, ◌≢◌, ◌⊎◌, ◌≤◌, ℕ, ◌+◌, not, false, List, [], ◌∷◌, ◌++◌, length, Option, Some, None}
use Rattle.score_base.specs.Faults.{Rose}
use Rattle.score_base.specs.declared.records.Record.{Record}
use Rattle.score_disk.specs.Files.{IsSettled, IsCrash}
use Rattle.journal_words.specs.Small.{small_in_time}
use Rattle.node_journal.specs.Calls.{lowered, LoweredAtMost}
pub use Rattle.node_journal.specs.Pairs.{LeavesLog, LeavesLogOr}
use Rattle.node_journal.specs.Pairs.{in_order, second_lives}
use Rattle.node_journal.specs.Torn.{LeavesShort}
use Rattle.disk_laws.specs.Shown.{Shown, Seats, first_seat, second_seat, HasLog, AreAtRest}

-- ---- one disk

-- every call went through: so many that a fuse counts, none of them stopped
pub record HasSpent (calls : ℕ) (s t : Shown) : Type 0 where
  pub left : t.left ≡ lowered calls s.left
  pub unstopped : t.left ≢ Some 0
  pub own : t.own ≡ s.own

-- a call failed, by a fault of the disk's own or where the fuse stopped a call; at most so many calls were counted
pub record HasHalted (most : ℕ) (s t : Shown) : Type 0 where
  pub left : LoweredAtMost most s.left t.left
  pub later : s.own ≤ t.own
  pub cause : Rose s.own t.own ⊎ (t.left ≡ Some 0)

-- a crash left one of the images, and the disk is settled and not armed
pub record HasCrashed (s t : Shown) : Type 0 where
  pub crash : IsCrash s.file t.file
  pub left : t.left ≡ None
  pub own : t.own ≡ s.own

-- what a disk shows that is armed with k, or that is not armed
abbrev pub armed : Option ℕ → Shown → Shown
armed left s = record s { left = left }

-- ---- the two disks of a node that is up

-- the two disks, armed with k or not armed
abbrev pub both_armed : Option ℕ → Seats → Seats
both_armed left s = record s { live = armed left s.live; other = armed left s.other }

-- the record was written behind these on the live disk, with four calls
pub record HasAppended (records : List Record) (x : Record) (number : ℕ) (s t : Seats) : Type 0 where
  pub rest : AreAtRest (records ++ x ∷ []) number t
  pub live : HasSpent 4 s.live t.live
  pub other : t.other ≡ s.other
  pub second : t.second ≡ s.second

-- the records were made small into the other disk, with six or eight calls, and that disk is the live one now
pub record HasCompacted (records : List Record) (number : ℕ) (s t : Seats) : Type 0 where
  pub rest : AreAtRest (small_in_time records) (number + 1) t
  pub live : HasSpent 6 s.other t.live ⊎ HasSpent 8 s.other t.live
  pub other : t.other ≡ s.live
  pub second : t.second ≡ not s.second

-- The node stopped while the record x was being written behind these: each pair of images has the list before it, alone
-- or with the record behind it, and alone where the fuse stopped one of the first two calls.
pub record WasCut (records : List Record) (x : Record) (number : ℕ) (s : Seats) (first second : Shown) : Type 0 where
  pub images : LeavesLogOr records number (records ++ x ∷ []) number first.file second.file
  pub early : (k : ℕ) → s.live.left ≡ Some k → k ≤ 2 → LeavesLog records number first.file second.file
  pub other : in_order s.second (λ _ other. other) first second ≡ s.other
  pub halted : HasHalted 4 s.live (in_order s.second (λ live _. live) first second)

-- The node stopped in a compaction of these: each pair of images has the list before it, or its Small under the next
-- generation, and the list before it where the fuse stopped one of the first four calls.
pub record WasCutSmall (records : List Record) (number : ℕ) (s : Seats) (first second : Shown) : Type 0 where
  pub images : LeavesLogOr records number (small_in_time records) (number + 1) first.file second.file
  pub early : (k : ℕ) → s.other.left ≡ Some k → k ≤ 4 → LeavesLog records number first.file second.file
  pub live : in_order s.second (λ live _. live) first second ≡ s.live
  pub halted : HasHalted 8 s.other (in_order s.second (λ _ other. other) first second)

-- ---- an opening of the two disks of a node that is down

-- neither file has a generation, and the first has at most two bytes: an opening makes it anew
abbrev pub IsEmptyPair : Shown → Shown → Type 0
IsEmptyPair first second = (second_lives first.file.seen second.file.seen ≡ false) × (length first.file.seen ≤ 2)

-- The node came up with the records of the live file: neither disk was written, or the first was made anew with two
-- calls.
pub record CameUp (records : List Record) (number : ℕ) (first second : Shown) (t : Seats) : Type 0 where
  pub log : HasLog records number first.file.seen second.file.seen
  pub rest : AreAtRest records number t
  pub first_is : (first_seat t ≡ first) ⊎ (IsEmptyPair first second × HasSpent 2 first (first_seat t))
  pub second_is : second_seat t ≡ second

-- The node did not come up: a call failed at one disk, and the other is as before. Only a first file that was being
-- made anew was written, and it has at most two bytes.
pub record FailedToOpen (first second first' second' : Shown) : Type 0 where
  pub halted : (HasHalted 2 first first' × (second' ≡ second)) ⊎ ((first' ≡ first) × HasHalted 0 second second')
  pub first_file : ((first'.file ≡ first.file) × (first'.left ≡ first.left))
      ⊎ (IsEmptyPair first second × LeavesShort 2 first'.file)
  pub second_file : second'.file ≡ second.file

-- a disk as it is handed in: empty, settled, and with no fuse armed
pub record IsNew (s : Shown) : Type 0 where
  pub empty : s.file.seen ≡ []
  pub settled : IsSettled s.file
  pub unarmed : s.left ≡ None
