use Rattle.std.proofs.Common.{◌≡◌, ◌++◌}
use Rattle.std.specs.Vec.Iter.{into_iter_items}
use Rattle.run_state.proofs.states.RunState.keep_all.Given as goal

abbrev pub invariant-loop-act : goal.invariant-loop-act
invariant-loop-act l =
    record l.state { acts = l.state.acts ++ into_iter_items l.act-iterator }
    ≡ record l.fn.self { acts = l.fn.self.acts ++ l.fn.acts.items }
