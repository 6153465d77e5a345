use Rattle.std.proofs.Common.{◌≡◌, ◌++◌}
use Rattle.std.specs.List.{flat_map}
use Rattle.grid_model.specs.Nodes.{journal}
use Rattle.run_state.specs.Kept.{past}
use Rattle.history_print.specs.Text.{key_lines}
use Rattle.history_print.proofs.summary.put_each_key.Given as goal

abbrev pub invariant-loop-key : goal.invariant-loop-key
invariant-loop-key l =
    l.out.items ++ flat_map (key_lines l.cluster (journal l.run.doc (past l.run))) l.key-iterator
    ≡ l.fn.out.items ++ flat_map (key_lines l.cluster (journal l.run.doc (past l.run))) l.keys.keys
