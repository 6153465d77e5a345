use Rattle.std.proofs.Common.{◌≡◌, ◌+◌, ◌≤◌, ◌++◌, length, vec_capacity}
use Rattle.std.specs.Vec.Iter.{into_iter_items}
use Rattle.grid_world.proofs.worlds.World+Fused+D.into_disks.Given as goal

abbrev pub invariant-loop-disk : goal.invariant-loop-disk
invariant-loop-disk g l = record {
  all : l.disks.items ++ into_iter_items l.disk-iterator ≡ l.initial.disks.items ++ l.fn.self.rest.items;
  room : length l.disks.items + length (into_iter_items l.disk-iterator) ≤ vec_capacity l.disks;
}
