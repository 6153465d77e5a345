use Rattle.std.proofs.Common.{◌≡◌, drop}
use Rattle.placement.specs.Places.{init_of}
use Rattle.placement.proofs.clusters.value_of.Given as goal

abbrev pub invariant-loop-init : goal.invariant-loop-init
invariant-loop-init l = init_of (drop l.init-index l.inits) l.key ≡ init_of l.inits l.key
