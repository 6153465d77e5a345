use Rattle.std.proofs.Common.{◌≡◌, length}
use Rattle.grid_world.specs.Starts.{AreSeated}
use Rattle.grid_world.proofs.openings.seat_all.Given as goal

abbrev pub invariant-loop-i : goal.invariant-loop-i
invariant-loop-i g l = record {
  seated : AreSeated 1 l.fn.disks.items l.hosts.items l.disks.items;
  count : length l.hosts.items ≡ l.i;
}
