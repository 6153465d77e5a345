use Rattle.std.proofs.Common.{◌≡◌, take, reverse}
use Rattle.journal_words.specs.Journals.{names_part}
use Rattle.journal_words.proofs.records.endings.names_part.Given as goal

abbrev pub invariant-loop-rec : goal.invariant-loop-rec
invariant-loop-rec l = l.named ≡ names_part l.t l.m (reverse (take l.rec-index l.records))
