use Rattle.std.proofs.Common.{◌≡◌, ◌++◌}
use Rattle.std.specs.Vec.Iter.{into_iter_items}
use Rattle.run_state.specs.Kept.{forgotten}
use Rattle.run_state.proofs.states.forgotten.Given as goal

abbrev pub invariant-loop-pair : goal.invariant-loop-pair
invariant-loop-pair l =
    l.left.items ++ forgotten l.doc l.n (into_iter_items l.pair-iterator) ≡ forgotten l.doc l.n l.fn.stories.items
