use Rattle.std.proofs.Common.{◌≡◌, ◌++◌}
use Rattle.std.specs.List.{flat_map}
use Rattle.grid_model.specs.Nodes.{journal, script_of}
use Rattle.grid_model.specs.Stories.{story}
use Rattle.run_state.specs.Kept.{past}
use Rattle.history_print.specs.Text.{script_line}
use Rattle.history_print.proofs.summary.put_numbered.Given as goal

abbrev pub invariant-loop-number : goal.invariant-loop-number
invariant-loop-number l =
    l.out.items ++ flat_map
    (λ t. script_line (story l.run.doc (past l.run)) (journal l.run.doc (past l.run)) (script_of t l.scripts))
    l.number-iterator ≡ l.fn.out.items ++ flat_map
    (λ t. script_line (story l.run.doc (past l.run)) (journal l.run.doc (past l.run)) (script_of t l.scripts))
    l.numbers.keys
