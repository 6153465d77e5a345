use Rattle.std.proofs.Common.{◌≡◌, length}
use Rattle.journal_words.specs.Journals.{are_distinct_keys}
use Rattle.journal_words.proofs.records.fitting.are_distinct_keys.Given as goal

abbrev pub invariant-loop-rest : goal.invariant-loop-rest
invariant-loop-rest l = are_distinct_keys l.rest ≡ are_distinct_keys l.keys

abbrev pub decreases-loop-rest : goal.decreases-loop-rest
decreases-loop-rest l = length l.rest
