use Rattle.std.proofs.Common.{◌≡◌, take, drop, ◌++◌}
use Rattle.grid_model.specs.Keyed.{at_key, put_key}
use Rattle.grid_model.specs.declared.stories.Story.{Story}
use Rattle.run_state.proofs.states.story_place.Given as goal

abbrev pub invariant-loop-i : goal.invariant-loop-i
invariant-loop-i l = record {
  at : at_key l.t (drop l.i l.stories) ≡ at_key l.t l.stories;
  put : (a : Story) → put_key l.t a l.stories ≡ take l.i l.stories ++ put_key l.t a (drop l.i l.stories);
}
