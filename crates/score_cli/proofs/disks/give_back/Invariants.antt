use Rattle.std.proofs.Common.{◌≡◌, ◌+◌, ◌≤◌, ◌++◌, length, map, vec_capacity}
use Rattle.std.specs.Vec.Iter.{into_iter_items}
use Rattle.score_cli.specs.Fuses.{unfused}
use Rattle.score_cli.proofs.disks.give_back.Given as goal

abbrev pub invariant-loop-disk : goal.invariant-loop-disk
invariant-loop-disk g l = record {
  all : l.disks.items ++ map unfused (into_iter_items l.disk-iterator) ≡ map unfused l.fn.all.items;
  room : length l.disks.items + length (into_iter_items l.disk-iterator) ≤ vec_capacity l.disks;
}
