use Rattle.std.proofs.Common.{take}
use Rattle.std.specs.List.{flat_map}
use Rattle.grid_model.specs.Schedules.{events_in}
use Rattle.grid_world.specs.Replays.{Adds}
use Rattle.grid_world.proofs.replays.replay.Given as goal

abbrev pub invariant-loop-item : goal.invariant-loop-item
invariant-loop-item g l =
    Adds l.doc (flat_map events_in (take l.item-index l.doc.items)) l.initial.world l.world l.initial.acts.items
    l.acts.items
