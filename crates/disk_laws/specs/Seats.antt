-- What stands of the two disks of a node between events.
use Rattle.std.specs.Prelude.{◌≡◌, ℕ, ◌+◌, nat_lt, Bool, true, false, IsTrue, List, ◌∷◌, reverse, length, Some, None, if◌then◌else◌}
use Rattle.score_base.specs.declared.ids.NodeId.{NodeId}
use Rattle.score_base.specs.declared.records.Record.{Record}
use Rattle.score_disk.specs.Files.{IsSettled}
use Rattle.journal_words.specs.Small.{small}
use Rattle.grid_model.specs.declared.acts.Act.{Act}
use Rattle.grid_model.specs.declared.acts.Flag.{Flag}
use Rattle.grid_model.specs.Documents.{DocumentData}
use Rattle.grid_model.specs.Nodes.{node, journal}
use Rattle.grid_model.specs.Disks.{disklog, is_compacting}
use Rattle.grid_model.specs.Fuses.{fuse, fuse_at_stop, lets_found}
use Rattle.grid_model.specs.Schedules.{flag_at}
use Rattle.disk_laws.specs.SoFar.{IsJointRise}
use Rattle.disk_laws.specs.DiskActs.{IsPromised, is_of_disk}
use Rattle.disk_laws.specs.Shown.{Shown, Seats, first_seat, second_seat, HasLog, AreAtRest}
use Rattle.disk_laws.specs.Ties.{IsTied, is_fresh}

-- a list that was never compacted is the journal: the live file has no generation above 0
abbrev pub IsPlain : DocumentData → List Act → NodeId → ℕ → Type 0
IsPlain d past n number = number ≡ 0 → disklog d past n ≡ journal d past n

-- The disks of n, which is up, whose live file has this generation: they hold its disk list, and their fuses are
-- the one that the acts leave.
pub record StandsUp (d : DocumentData) (past : List Act) (n : NodeId) (number : ℕ) (s : Seats) : Type 0 where
  pub up : (node d past n).up ≡ true
  pub rest : AreAtRest (reverse (disklog d past n)) number s
  pub tied : IsTied (fuse d past n) s.live.left s.other.left
  pub plain : IsPlain d past n number

-- The log of n, which is down and whose live file had this generation when it stopped: its disk list; where it
-- stopped in a record whose gate the fuse of then let be opened, that list with the record behind it; where it
-- stopped in a compaction whose version the fuse of then let stand, its Small under the next generation.
pub data HoldsLog (d : DocumentData) (past : List Act) (n : NodeId) (number : ℕ) (first second : List ℕ) : Type 0 where
  standing : HasLog (reverse (disklog d past n)) number first second → HoldsLog d past n number first second
  in_doubt : (last : Record) → is_compacting past n ≡ false → (node d past n).doubt ≡ Some last
      → IsTrue (lets_found false (fuse_at_stop d past n)) → HasLog (reverse (last ∷ disklog d past n)) number first
      second
      → HoldsLog d past n number first second
  compacting : is_compacting past n ≡ true → IsTrue (lets_found true (fuse_at_stop d past n))
      → HasLog (reverse (small (disklog d past n))) (number + 1) first second → HoldsLog d past n number first second

-- The disks of n, which is down: they are settled and hold its log, and their fuses are the one that the acts
-- leave, which has counted nothing.
pub record StandsDown (d : DocumentData) (past : List Act) (n : NodeId) (number : ℕ) (first second : Shown) : Type 0
  where
    pub down : (node d past n).up ≡ false
    pub first_settled : IsSettled first.file
    pub second_settled : IsSettled second.file
    pub holds : HoldsLog d past n number first.file.seen second.file.seen
    pub tied : IsTied (fuse d past n) first.left second.left
    pub fresh : IsTrue (is_fresh (fuse d past n))
    pub plain : IsPlain d past n number

-- the disks of n between events
pub data Stands (d : DocumentData) (past : List Act) (n : NodeId) (first second : Shown) : Type 0 where
  up : (number : ℕ) (s : Seats) → StandsUp d past n number s → first ≡ first_seat s → second ≡ second_seat s
      → Stands d past n first second
  down : (number : ℕ) → StandsDown d past n number first second → Stands d past n first second

-- What an opening found, by the generation and the number of records before the stop and behind the opening: a greater
-- generation where a compaction was in doubt, else more records.
abbrev pub finds_by : Bool → ℕ → ℕ → ℕ → ℕ → Bool
finds_by doubt number number' count count' = if doubt then nat_lt number number' else nat_lt count count'

-- what an opening of n says, which gives so many records of this generation
abbrev pub flag_by : DocumentData → List Act → NodeId → ℕ → ℕ → ℕ → Flag
flag_by d past n number number' count' =
    flag_at (is_compacting past n) (node d past n).doubt
    (finds_by (is_compacting past n) number number' (length (disklog d past n)) count')

-- What the disks of n did in an act behind this past is what they promise, by how much their counts rose together.
pub record IsTurn (d : DocumentData) (past : List Act) (n : NodeId) (a : Act) (first second first' second' : Shown) :
    Type 0 where
  pub own : IsTrue (is_of_disk d n a)
  pub more : ℕ
  pub promised : IsPromised d past n a more
  pub rise : IsJointRise first.own second.own first'.own second'.own more

-- n is up behind an act, in which its disks did what they promise
pub record UpBehind (d : DocumentData) (past : List Act) (n : NodeId) (a : Act) (number : ℕ) (first second : Shown)
    (t : Seats) : Type 0 where
  pub turn : IsTurn d past n a first second (first_seat t) (second_seat t)
  pub stands : StandsUp d (a ∷ past) n number t

-- n is down behind an act, in which its disks did what they promise
pub record DownBehind (d : DocumentData) (past : List Act) (n : NodeId) (a : Act) (number : ℕ)
    (first second first' second' : Shown) : Type 0 where
  pub turn : IsTurn d past n a first second first' second'
  pub stands : StandsDown d (a ∷ past) n number first' second'

-- the disks of n, which was never opened
pub record StandsNew (d : DocumentData) (past : List Act) (n : NodeId) (first second : Shown) : Type 0 where
  pub stands : StandsDown d past n 0 first second
  pub sure : (node d past n).doubt ≡ None
  pub uncompacted : is_compacting past n ≡ false
  pub unarmed : fuse d past n ≡ None
