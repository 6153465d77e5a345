use Rattle.std.proofs.Common.{◌≡◌, ℕ, Some, length}
use Rattle.std.specs.Prelude.{slice_get}
use Rattle.score_disk.specs.declared.memory.MemDisk.{MemDisk}
use Rattle.score_disk.specs.contracts.memory.MemDiskDisk.TheImpl.{ghosts}
use Rattle.score_cli.specs.Disks.{IsBlank}
use Rattle.score_rows.proofs.stops.failing_disks.Given as goal

abbrev pub invariant-loop-i : goal.invariant-loop-i
invariant-loop-i l = record {
  count : length l.disks.items ≡ l.i;
  each : (m : ℕ) (disk : MemDisk) → slice_get l.disks.items m ≡ Some disk → IsBlank ghosts disk;
}
