use Rattle.std.proofs.Common.{◌≡◌}
use Rattle.node_rows.proofs.messages.leaves.Given as goal

abbrev pub invariant-loop-i : goal.invariant-loop-i
invariant-loop-i l = l.grid ≡ l.cluster
