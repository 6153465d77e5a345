use Rattle.std.proofs.Common.{◌≡◌, drop}
use Rattle.run_tally.specs.Tallies.{tally_after}
use Rattle.grid_world.proofs.told.take_all.Given as goal

abbrev pub invariant-loop-act : goal.invariant-loop-act
invariant-loop-act l = tally_after l.doc l.tally (drop l.act-index l.acts) ≡ tally_after l.doc l.fn.tally l.acts
