use Rattle.std.proofs.Common.{◌≡◌, drop}
use Rattle.std.specs.Prelude.{fold}
use Rattle.std.specs.Ordering.{nat_cmp}
use Rattle.std.specs.BTreeSet.{insert_key}
use Rattle.std.specs.Cmp.Lexicographic.{slice_cmp}
use Rattle.std.specs.List.{flat_map}
use Rattle.script_lang.specs.Reads.{keys_named}
use Rattle.history_print.proofs.summary.add_scripts.Given as goal

abbrev pub invariant-loop-script : goal.invariant-loop-script
invariant-loop-script l =
    fold (insert_key (slice_cmp nat_cmp)) l.keys.keys (flat_map (λ s. keys_named s.ops) (drop l.script-index l.scripts))
    ≡ fold (insert_key (slice_cmp nat_cmp)) l.fn.keys.keys (flat_map (λ s. keys_named s.ops) l.scripts)
