use Rattle.std.proofs.Common.{◌≡◌, drop}
use Rattle.grid_model.specs.Keyed.{at_key}
use Rattle.run_tally.proofs.tallies.Tally.tx.Given as goal

abbrev pub invariant-loop-pair : goal.invariant-loop-pair
invariant-loop-pair l = at_key l.t (drop l.pair-index l.pair-items) ≡ at_key l.t l.self.txs
