use Rattle.std.proofs.Common.{◌≡◌, ◌+◌, ◌≤◌, ◌++◌, length, map, vec_capacity}
use Rattle.std.specs.Vec.Iter.{into_iter_items}
use Rattle.score_cli.specs.Fuses.{fused}
use Rattle.score_cli.proofs.disks.fuse_all.Given as goal

abbrev pub invariant-loop-disk : goal.invariant-loop-disk
invariant-loop-disk g l = record {
  all : l.all.items ++ map fused (into_iter_items l.disk-iterator) ≡ map fused l.fn.disks.items;
  room : length l.all.items + length (into_iter_items l.disk-iterator) ≤ vec_capacity l.all;
}
