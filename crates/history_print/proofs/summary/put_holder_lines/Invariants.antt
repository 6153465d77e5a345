use Rattle.std.proofs.Common.{◌≡◌, ◌++◌, ◌+◌, ◌-◌}
use Rattle.std.specs.List.{flat_map, range_with_len}
use Rattle.grid_model.specs.Nodes.{journal}
use Rattle.run_state.specs.Kept.{past}
use Rattle.history_print.specs.Text.{holder_line}
use Rattle.history_print.proofs.summary.put_holder_lines.Given as goal

abbrev pub invariant-loop-i : goal.invariant-loop-i
invariant-loop-i l =
    l.out.items ++ flat_map (holder_line l.cluster (journal l.run.doc (past l.run)) l.key)
    (range_with_len (l.i + 1) (l.count - l.i)) ≡ l.fn.out.items
    ++ flat_map (holder_line l.cluster (journal l.run.doc (past l.run)) l.key) (range_with_len 1 l.count)
