use Rattle.std.proofs.Common.{◌≡◌, ◌++◌, drop}
use Rattle.grid_model.specs.Advances.{owns}
use Rattle.presumed_abort.proofs.advances.push_owns.Given as goal

abbrev pub invariant-loop-read : goal.invariant-loop-read
invariant-loop-read l =
    l.outs.items ++ owns l.t l.i (drop l.read-index l.reads) ≡ l.fn.outs.items ++ owns l.t l.i l.reads
