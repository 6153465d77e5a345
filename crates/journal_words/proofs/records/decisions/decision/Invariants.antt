use Rattle.std.proofs.Common.{◌≡◌, take, reverse}
use Rattle.journal_words.specs.Journals.{decision}
use Rattle.journal_words.proofs.records.decisions.decision.Given as goal

abbrev pub invariant-loop-rec : goal.invariant-loop-rec
invariant-loop-rec l = l.found ≡ decision l.t (reverse (take l.rec-index l.records))
