use Rattle.std.proofs.Common.{◌≡◌, ◌++◌}
use Rattle.std.specs.List.{flat_map}
use Rattle.grid_model.specs.Nodes.{script_of}
use Rattle.run_tally.specs.Phases.{lost_in}
use Rattle.run_tally.proofs.phases.push_losses.Given as goal

abbrev pub invariant-loop-number : goal.invariant-loop-number
invariant-loop-number l =
    l.acts.items ++ flat_map (λ t. lost_in l.tally l.n (script_of t l.scripts)) l.number-iterator
    ≡ l.fn.acts.items ++ flat_map (λ t. lost_in l.tally l.n (script_of t l.scripts)) l.numbers.keys
