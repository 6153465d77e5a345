use Rattle.std.proofs.Common.{◌≡◌, take, reverse}
use Rattle.journal_words.specs.Journals.{is_above}
use Rattle.journal_words.proofs.records.fitting.is_above.Given as goal

abbrev pub invariant-loop-rec : goal.invariant-loop-rec
invariant-loop-rec l = l.above ≡ is_above l.p (reverse (take l.rec-index l.records))
