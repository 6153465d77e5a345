-- What the two disks of a pair show.
use Rattle.std.specs.Prelude.{◌≡◌, ◌⊎◌, ℕ, false, ◌+◌, ◌<◌, ◌≤◌, ◌^◌, List, length, Result, Ok, IsTrue, vec_len, vec_capacity}
use Rattle.std.specs.List.{All}
use Rattle.journal_records.specs.Records.{IsRecord}
use Rattle.score_base.specs.declared.records.Record.{Record}
use Rattle.score_disk.specs.Files.{IsSettled}
use Rattle.score_disk.specs.declared.disk.Disk.{Ghosts}
use Rattle.node_journal.specs.declared.pair.Pair.{Pair}
use Rattle.node_journal.specs.Pairs.{in_order, second_lives, pair_log, filling, listed_in}
use Rattle.node_journal.specs.Calls.{HasRoom}
use Rattle.node_journal.specs.Spending.{Halted, Untouched}
use Rattle.node_journal.specs.Torn.{LeavesShort}

module _ {D : Type 0} {g : Ghosts D} where
  -- both disks tell their files
  abbrev pub TellsBoth : Pair D g → Type 0
  TellsBoth p = IsTrue (g.tells p.live.disk) × IsTrue (g.tells p.other)

  -- the first and the second of the two disks
  abbrev pub first_of : Pair D g → D
  first_of p = in_order p.second (λ first _. first) p.live.disk p.other

  abbrev pub last_of : Pair D g → D
  last_of p = in_order p.second (λ _ last. last) p.live.disk p.other

  -- the log of the two disks
  abbrev pub pair_log_of : Pair D g → Result (List Record) ℕ
  pair_log_of p = in_order p.second pair_log (g.file p.live.disk).seen (g.file p.other).seen

  -- the list of the pair: the records of the log that it keeps in memory
  abbrev pub list_of : Pair D g → List Record
  list_of p = listed_in p.listed.items

  -- there is room for one record, on the live disk and in memory
  pub record HasPairRoom (p : Pair D g) : Type 0 where
    pub live : HasRoom (g.spare p.live.disk) (vec_capacity p.live.scratch) (vec_capacity p.live.body)
        (vec_capacity p.live.frame) p.live.gate
    pub listed : vec_len p.listed + 4100 ≤ vec_capacity p.listed

  -- both disks are settled, and their log is these records
  pub record IsPairAtRest (p : Pair D g) (records : List Record) : Type 0 where
    pub live : IsSettled (g.file p.live.disk)
    pub other : IsSettled (g.file p.other)
    pub is : pair_log_of p ≡ Ok records

  -- the records are spelled as the next generation, and there is room for them on the other disk
  pub record IsReady (p : Pair D g) (records : List Record) : Type 0 where
    pub spelled : p.spelled.items ≡ filling (p.number + 1) records
    pub are_records : All IsRecord records
    pub room : length p.spelled.items + 2 ≤ g.spare p.other
    pub short : length p.spelled.items < 2 ^ 63

-- An opening of two disks failed: one failed call at one of them, and the other is as before. Only a first file that was
-- being made anew was written, and it has at most two bytes.
pub record PairFailed {D : Type 0} (g : Ghosts D) (first second a b : D) : Type 0 where
  pub halted : (Halted g 2 first a × Untouched g second b) ⊎ (Untouched g first a × Halted g 0 second b)
  pub first_file : ((g.file a ≡ g.file first) × (g.left a ≡ g.left first))
      ⊎ ((second_lives (g.file first).seen (g.file second).seen ≡ false) × (length (g.file first).seen ≤ 2)
      × LeavesShort 2 (g.file a))
  pub second_file : g.file b ≡ g.file second
