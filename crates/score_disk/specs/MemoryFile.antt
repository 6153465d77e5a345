-- The file of a disk in memory, and which of its calls fail.
use Rattle.std.specs.Prelude.{◌≡◌, ◌+◌, ◌-◌, ◌^◌, ◌<◌, ◌↔◌, min, length, Result, IsErr, Contains}
use Rattle.std.proofs.Common.{arith}
use Rattle.score_disk.specs.declared.memory.MemDisk.{MemDisk}
use Rattle.score_disk.specs.Copies.{is_marked}
use Rattle.score_disk.specs.Files.{File, IsSound}

-- what a read gives, the marked places, the least length, and as the greatest the number of marks
abbrev pub memory_file : MemDisk → File
memory_file d =
    record { seen = d.bytes.items; touched = is_marked d.marks.items; least = d.least; greatest = length d.marks.items }

-- A write, cut or sync counts as the next call, and fails exactly where the list has its number.
pub record IsNumbered {T E : Type 0} (old now : MemDisk) (result : Result T E) : Type 0 where
  pub number : now.calls ≡ min (old.calls + 1) (2 ^ 64 - 1)
  pub list : now.fails.items ≡ old.fails.items
  pub fails : IsErr result ↔ Contains old.fails.items now.calls

pub memory_sound : (d : MemDisk) → IsSound (memory_file d)
memory_sound d =
    record { no_shorter = d.copies.bytes_least; no_longer = d.copies.bytes_most; past_least = d.copies.low }

pub memory_bounded : (d : MemDisk) → length d.bytes.items + d.spare < 2 ^ 63
memory_bounded d = omega (arith, d.copies.bytes_most, d.bounded)
