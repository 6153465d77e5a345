use Rattle.std.proofs.Common.{◌≡◌, take, reverse}
use Rattle.journal_words.specs.Journals.{ended}
use Rattle.journal_words.proofs.records.endings.ended.Given as goal

abbrev pub invariant-loop-rec : goal.invariant-loop-rec
invariant-loop-rec l = l.found ≡ ended l.t (reverse (take l.rec-index l.records))
