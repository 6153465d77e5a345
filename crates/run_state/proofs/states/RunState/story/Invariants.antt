use Rattle.std.proofs.Common.{◌≡◌, drop}
use Rattle.grid_model.specs.Keyed.{at_key}
use Rattle.grid_model.specs.Stories.{story}
use Rattle.run_state.specs.Kept.{past}
use Rattle.run_state.proofs.states.RunState.story.Given as goal

abbrev pub invariant-loop-pair : goal.invariant-loop-pair
invariant-loop-pair l = at_key l.t (drop l.pair-index l.pair-items) ≡ story l.self.doc (past l.self) l.t
