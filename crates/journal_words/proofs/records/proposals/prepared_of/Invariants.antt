use Rattle.std.proofs.Common.{◌≡◌, take, reverse}
use Rattle.journal_words.specs.Journals.{prepared_of}
use Rattle.journal_words.proofs.records.proposals.prepared_of.Given as goal

abbrev pub invariant-loop-rec : goal.invariant-loop-rec
invariant-loop-rec l = l.found ≡ prepared_of l.t (reverse (take l.rec-index l.records))
