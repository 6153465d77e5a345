use Rattle.std.proofs.Common.{◌≡◌, drop, slice_get}
use Rattle.placement.specs.Places.{others}
use Rattle.presumed_abort.proofs.requests.other_at.Given as goal

abbrev pub invariant-loop-node : goal.invariant-loop-node
invariant-loop-node l =
    slice_get (others l.but (drop l.node-index l.nodes)) l.left ≡ slice_get (others l.but l.nodes) l.fn.place
