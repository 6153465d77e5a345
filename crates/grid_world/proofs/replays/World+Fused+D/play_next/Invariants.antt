use Rattle.std.proofs.Common.{replicate}
use Rattle.grid_model.specs.declared.items.Item.TheVariants as item
use Rattle.grid_world.specs.Replays.{Adds}
use Rattle.grid_world.proofs.replays.World+Fused+D.play_next.Given as goal

abbrev pub invariant-loop-i : goal.invariant-loop-i
invariant-loop-i g l = Adds l.doc (replicate l.i (item.Next 1)) l.fn.self l.self l.fn.acts.items l.acts.items
