use Rattle.std.proofs.Common.{◌≡◌, take, drop, ◌++◌}
use Rattle.grid_model.specs.Keyed.{at_key, put_key}
use Rattle.run_tally.specs.declared.noted.Noted.{Noted}
use Rattle.run_tally.proofs.nodes.writes_place.Given as goal

abbrev pub invariant-loop-i : goal.invariant-loop-i
invariant-loop-i l = record {
  at : at_key l.t (drop l.i l.rows) ≡ at_key l.t l.rows;
  put : (a : Noted) → put_key l.t a l.rows ≡ take l.i l.rows ++ put_key l.t a (drop l.i l.rows);
}
