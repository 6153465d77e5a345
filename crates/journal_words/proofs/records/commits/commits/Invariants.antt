use Rattle.std.proofs.Common.{◌≡◌, take, reverse}
use Rattle.journal_words.specs.Journals.{commits}
use Rattle.journal_words.proofs.records.commits.commits.Given as goal

abbrev pub invariant-loop-rec : goal.invariant-loop-rec
invariant-loop-rec l = l.pairs ≡ commits (reverse (take l.rec-index l.records))
