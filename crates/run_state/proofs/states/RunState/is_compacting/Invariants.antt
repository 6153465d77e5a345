use Rattle.std.proofs.Common.{◌≡◌, drop}
use Rattle.grid_model.specs.Disks.{is_compacting}
use Rattle.run_state.specs.Kept.{past, compacting_after}
use Rattle.run_state.proofs.states.RunState.is_compacting.Given as goal

abbrev pub invariant-loop-act : goal.invariant-loop-act
invariant-loop-act l =
    compacting_after l.n l.is_in_doubt (drop l.act-index l.act-items) ≡ is_compacting (past l.self) l.n
