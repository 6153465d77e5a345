use Rattle.std.proofs.Common.{◌≡◌, length}
use Rattle.grid_world.proofs.StartRows.{OpenedTo}
use Rattle.grid_world.proofs.openings.World+Fused+D.opening.Given as goal

abbrev pub invariant-loop-i : goal.invariant-loop-i
invariant-loop-i g l = record {
  opened : OpenedTo l.doc l.fn.self l.self l.acts.items;
  count : length l.acts.items ≡ l.i;
}
