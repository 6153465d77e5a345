use Rattle.std.proofs.Common.{◌≡◌, take, drop, ◌++◌}
use Rattle.grid_model.specs.Keyed.{at_key, put_key}
use Rattle.run_tally.specs.declared.txs.TxTally.{TxTally}
use Rattle.run_tally.proofs.tallies.tx_place.Given as goal

abbrev pub invariant-loop-i : goal.invariant-loop-i
invariant-loop-i l = record {
  at : at_key l.t (drop l.i l.txs) ≡ at_key l.t l.txs;
  put : (a : TxTally) → put_key l.t a l.txs ≡ take l.i l.txs ++ put_key l.t a (drop l.i l.txs);
}
