use Rattle.std.proofs.Common.{◌≡◌, ◌++◌}
use Rattle.std.specs.List.{flat_map}
use Rattle.grid_model.specs.Nodes.{script_of}
use Rattle.run_tally.specs.Texts.{told_line}
use Rattle.run_tally.proofs.text.put_numbered.Given as goal

abbrev pub invariant-loop-number : goal.invariant-loop-number
invariant-loop-number l =
    l.out.items ++ flat_map (λ t. told_line l.tally (script_of t l.scripts)) l.number-iterator
    ≡ l.fn.out.items ++ flat_map (λ t. told_line l.tally (script_of t l.scripts)) l.numbers.keys
