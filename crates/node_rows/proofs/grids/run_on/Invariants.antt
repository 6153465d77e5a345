use Rattle.std.proofs.Common.{◌≡◌}
use Rattle.node_rows.proofs.grids.run_on.Given as goal

abbrev pub invariant-messages : goal.invariant-messages
invariant-messages l = l.cluster ≡ l.grid
