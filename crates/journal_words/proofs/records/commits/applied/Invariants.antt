use Rattle.std.proofs.Common.{◌≡◌, take, reverse}
use Rattle.journal_words.specs.Journals.{applied_of}
use Rattle.journal_words.proofs.records.commits.applied.Given as goal

abbrev pub invariant-loop-pair : goal.invariant-loop-pair
invariant-loop-pair l = l.pairs ≡ applied_of (reverse l.records) (reverse (take l.pair-index l.pair-items))
