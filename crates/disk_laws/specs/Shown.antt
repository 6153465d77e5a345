-- What the disks of a node show.
use Rattle.std.specs.Prelude.{◌≡◌, ℕ, Bool, List, Option, Ok}
use Rattle.score_base.specs.declared.records.Record.{Record}
use Rattle.score_disk.specs.Files.{File, IsSettled}
use Rattle.score_disk.specs.declared.disk.Disk.{Ghosts}
use Rattle.node_journal.specs.declared.pair.Pair.{Pair}
use Rattle.node_journal.specs.Log.{generation}
pub use Rattle.node_journal.specs.Pairs.{pair_number, HasLog}
use Rattle.node_journal.specs.Pairs.{number_of, in_order, pair_log, IsLive}

-- what a disk with a fuse shows: its file, what is left of its fuse, and its own count of faults
pub record Shown : Type 0 where
  pub file : File
  pub left : Option ℕ
  pub own : ℕ

-- what a disk shows
abbrev pub shown : {D : Type 0} → Ghosts D → D → Shown
shown g disk = record { file = g.file disk; left = g.left disk; own = g.own disk }

-- what the disks of a node that is up show: the live one and the other, and whether the live one is the second of
-- the two
pub record Seats : Type 0 where
  pub second : Bool
  pub live : Shown
  pub other : Shown

-- what the disks of a pair show
abbrev pub seats : {D : Type 0} {g : Ghosts D} → Pair D g → Seats
seats {D} {g} p = record { second = p.second; live = shown g p.live.disk; other = shown g p.other }

-- the first and the second of the two disks
abbrev pub first_seat : Seats → Shown
first_seat s = in_order s.second (λ first _. first) s.live s.other

abbrev pub second_seat : Seats → Shown
second_seat s = in_order s.second (λ _ second. second) s.live s.other

-- both disks of a node that is up are settled, their log is these records, and this is the generation of the live one
pub record AreAtRest (records : List Record) (number : ℕ) (s : Seats) : Type 0 where
  pub live : IsSettled s.live.file
  pub other : IsSettled s.other.file
  pub is_live : IsLive s.second s.live.file.seen s.other.file.seen
  pub log : in_order s.second pair_log s.live.file.seen s.other.file.seen ≡ Ok records
  pub number_is : number_of (generation s.live.file.seen) ≡ number
