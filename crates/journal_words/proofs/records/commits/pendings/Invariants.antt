use Rattle.std.proofs.Common.{◌≡◌, take, reverse}
use Rattle.journal_words.specs.Journals.{pendings}
use Rattle.journal_words.proofs.records.commits.pendings.Given as goal

abbrev pub invariant-loop-rec : goal.invariant-loop-rec
invariant-loop-rec l = l.pairs ≡ pendings (reverse (take l.rec-index l.records))
