use Rattle.std.proofs.Common.{◌≡◌, take, reverse}
use Rattle.grid_model.specs.Keyed.{at_key}
use Rattle.run_tally.proofs.nodes.ident_of.Given as goal

abbrev pub invariant-loop-pair : goal.invariant-loop-pair
invariant-loop-pair l = l.found ≡ at_key l.t (reverse (take l.pair-index l.pair-items))
