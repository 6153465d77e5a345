use Rattle.std.proofs.Common.{◌≡◌, take, drop, ◌++◌}
use Rattle.grid_model.specs.Keyed.{at_key, put_key}
use Rattle.run_tally.specs.Tallies.{NodeData}
use Rattle.run_tally.proofs.tallies.node_place.Given as goal

abbrev pub invariant-loop-i : goal.invariant-loop-i
invariant-loop-i l = record {
  at : at_key l.n (drop l.i l.nodes) ≡ at_key l.n l.nodes;
  put : (a : NodeData) → put_key l.n a l.nodes ≡ take l.i l.nodes ++ put_key l.n a (drop l.i l.nodes);
}
