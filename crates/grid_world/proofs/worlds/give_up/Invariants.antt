use Rattle.std.proofs.Common.{◌≡◌, ◌+◌, ◌*◌, ◌≤◌, length, vec_capacity}
use Rattle.std.specs.Vec.Iter.{into_iter_items}
use Rattle.grid_world.proofs.Ended.{GivenUpTo}
use Rattle.grid_world.proofs.worlds.give_up.Given as goal

abbrev pub invariant-loop-host : goal.invariant-loop-host
invariant-loop-host g l = record {
  room : length l.disks.items + 2 * length (into_iter_items l.host-iterator) ≤ vec_capacity l.disks;
  capacity : vec_capacity l.disks ≡ vec_capacity l.fn.disks;
  given : GivenUpTo l.fn.hosts.items (into_iter_items l.host-iterator) l.fn.disks.items l.disks.items;
}
