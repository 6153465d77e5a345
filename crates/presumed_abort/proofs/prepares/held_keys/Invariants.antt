use Rattle.std.proofs.Common.{◌≡◌, ◌++◌, drop, filter}
use Rattle.placement.specs.Places.{holds}
use Rattle.presumed_abort.proofs.prepares.held_keys.Given as goal

abbrev pub invariant-loop-key : goal.invariant-loop-key
invariant-loop-key l =
    l.held ++ filter (holds l.cluster.places l.n) (drop l.key-index l.keys) ≡ filter (holds l.cluster.places l.n) l.keys
