use Rattle.std.proofs.Common.{◌≡◌, drop}
use Rattle.grid_model.specs.Nodes.{script_of}
use Rattle.run_state.proofs.scripts.script_of.Given as goal

abbrev pub invariant-loop-script : goal.invariant-loop-script
invariant-loop-script l = script_of l.t (drop l.script-index l.scripts) ≡ script_of l.t l.scripts
