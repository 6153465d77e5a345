use Rattle.std.proofs.Common.{◌≡◌, drop}
use Rattle.std.specs.Prelude.{fold}
use Rattle.std.specs.Ordering.{nat_cmp}
use Rattle.std.specs.BTreeSet.{insert_key}
use Rattle.std.specs.Cmp.Lexicographic.{slice_cmp}
use Rattle.script_lang.specs.Reads.{keys_named}
use Rattle.history_print.proofs.summary.add_ops.Given as goal

abbrev pub invariant-loop-op : goal.invariant-loop-op
invariant-loop-op l =
    fold (insert_key (slice_cmp nat_cmp)) l.keys.keys (keys_named (drop l.op-index l.ops))
    ≡ fold (insert_key (slice_cmp nat_cmp)) l.fn.keys.keys (keys_named l.ops)
