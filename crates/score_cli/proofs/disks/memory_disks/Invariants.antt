use Rattle.std.proofs.Common.{◌≡◌, ℕ, Some, length}
use Rattle.std.specs.Prelude.{slice_get}
use Rattle.score_disk.specs.declared.memory.MemDisk.{MemDisk}
use Rattle.score_disk.specs.contracts.memory.MemDiskDisk.TheImpl.{ghosts}
use Rattle.score_cli.specs.Disks.{IsBlank}
use Rattle.score_cli.proofs.disks.memory_disks.Given as goal

abbrev pub invariant-loop : goal.invariant-loop
invariant-loop l = record {
  count : length l.disks.items ≡ l.counter;
  each : (m : ℕ) (disk : MemDisk) → slice_get l.disks.items m ≡ Some disk → IsBlank ghosts disk;
}
