use Rattle.std.proofs.Common.{◌≡◌, take, reverse}
use Rattle.run_tally.specs.Texts.{newest_of}
use Rattle.run_tally.proofs.nodes.NodeTally.newest.Given as goal

abbrev pub invariant-loop-pair : goal.invariant-loop-pair
invariant-loop-pair l = l.found ≡ newest_of l.self l.key l.fn.start (reverse (take l.pair-index l.pair-items))
