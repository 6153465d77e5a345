use Rattle.std.proofs.Common.{◌≡◌, drop}
use Rattle.std.specs.Prelude.{fold}
use Rattle.std.specs.Ordering.{nat_cmp}
use Rattle.std.specs.BTreeSet.{insert_key}
use Rattle.grid_model.specs.Documents.{script_numbers}
use Rattle.history_print.proofs.summary.add_numbers.Given as goal

abbrev pub invariant-loop-script : goal.invariant-loop-script
invariant-loop-script l =
    fold (insert_key nat_cmp) l.numbers.keys (script_numbers (drop l.script-index l.scripts))
    ≡ fold (insert_key nat_cmp) l.fn.numbers.keys (script_numbers l.scripts)
