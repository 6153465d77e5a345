use Rattle.std.proofs.Common.{◌≡◌, take, reverse}
use Rattle.journal_words.specs.Journals.{floor}
use Rattle.journal_words.proofs.records.endings.floor.Given as goal

abbrev pub invariant-loop-rec : goal.invariant-loop-rec
invariant-loop-rec l = l.greatest ≡ floor (reverse (take l.rec-index l.records))
