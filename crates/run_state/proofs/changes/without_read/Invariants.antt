use Rattle.std.proofs.Common.{◌≡◌, ◌++◌, drop, if◌then◌else◌}
use Rattle.grid_model.specs.Nodes.{without_read}
use Rattle.run_state.proofs.changes.without_read.Given as goal

abbrev pub invariant-loop-read : goal.invariant-loop-read
invariant-loop-read l =
    l.left
    ++ (if l.is_found then drop l.read-index l.held else without_read l.t l.op l.key l.sid (drop l.read-index l.held))
    ≡ without_read l.t l.op l.key l.sid l.held
