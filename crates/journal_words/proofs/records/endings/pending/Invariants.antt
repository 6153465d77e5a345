use Rattle.std.proofs.Common.{◌≡◌, take, reverse}
use Rattle.journal_words.specs.Journals.{pending}
use Rattle.journal_words.proofs.records.endings.pending.Given as goal

abbrev pub invariant-loop-rec : goal.invariant-loop-rec
invariant-loop-rec l = l.found ≡ pending l.t (reverse (take l.rec-index l.records))
