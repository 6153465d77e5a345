use Rattle.std.proofs.Common.{◌≡◌, take, reverse}
use Rattle.journal_words.specs.Journals.{is_closed}
use Rattle.journal_words.proofs.records.decisions.is_closed.Given as goal

abbrev pub invariant-loop-rec : goal.invariant-loop-rec
invariant-loop-rec l = l.closed ≡ is_closed l.t (reverse (take l.rec-index l.records))
