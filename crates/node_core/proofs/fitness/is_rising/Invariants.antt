use Rattle.std.proofs.Common.{◌≡◌, length}
use Rattle.grid_model.specs.Fitness.{is_rising}
use Rattle.node_core.proofs.fitness.is_rising.Given as goal

abbrev pub invariant-loop-rest : goal.invariant-loop-rest
invariant-loop-rest l = is_rising l.rest ≡ is_rising l.fn.nodes

abbrev pub decreases-loop-rest : goal.decreases-loop-rest
decreases-loop-rest l = length l.rest
