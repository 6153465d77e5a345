use Rattle.std.proofs.Common.{◌≡◌, ℕ, length}
use Rattle.grid_model.specs.Nodes.{blank}
use Rattle.run_state.specs.Kept.{node_in}
use Rattle.run_state.proofs.states.RunState.new.Given as goal

abbrev pub invariant-loop-n : goal.invariant-loop-n
invariant-loop-n l = record {
  count : length l.nodes.items ≡ l.n;
  each : (k : ℕ) → node_in l.nodes.items k ≡ blank;
}
