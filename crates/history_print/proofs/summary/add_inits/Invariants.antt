use Rattle.std.proofs.Common.{◌≡◌, drop, map}
use Rattle.std.specs.Prelude.{fold}
use Rattle.std.specs.Ordering.{nat_cmp}
use Rattle.std.specs.BTreeSet.{insert_key}
use Rattle.std.specs.Cmp.Lexicographic.{slice_cmp}
use Rattle.history_print.proofs.summary.add_inits.Given as goal

abbrev pub invariant-loop-init : goal.invariant-loop-init
invariant-loop-init l =
    fold (insert_key (slice_cmp nat_cmp)) l.keys.keys (map (λ x. x.0) (drop l.init-index l.inits))
    ≡ fold (insert_key (slice_cmp nat_cmp)) l.fn.keys.keys (map (λ x. x.0) l.inits)
