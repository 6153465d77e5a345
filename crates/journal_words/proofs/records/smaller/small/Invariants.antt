use Rattle.std.proofs.Common.{◌≡◌, ◌++◌, reverse, vec_len}
use Rattle.journal_words.specs.Small.{is_set, small, without_needless}
use Rattle.journal_words.proofs.records.smaller.small.Given as goal

abbrev pub invariant-loop-rec : goal.invariant-loop-rec
invariant-loop-rec l =
    l.kept.items ++ without_needless l.later.ceiling (is_set l.later.closed.items) (small (reverse l.records.items))
    ≡ small (reverse l.fn.records.items)

abbrev pub decreases-loop-rec : goal.decreases-loop-rec
decreases-loop-rec l = vec_len l.records
