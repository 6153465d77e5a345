use Rattle.std.proofs.Common.{◌≡◌, ◌≤◌, take, reverse}
use Rattle.journal_words.specs.Journals.{times_decided}
use Rattle.journal_words.proofs.records.decisions.times_decided.Given as goal

abbrev pub invariant-loop-rec : goal.invariant-loop-rec
invariant-loop-rec l = (l.times ≡ times_decided l.t (reverse (take l.rec-index l.records))) × (l.times ≤ l.rec-index)
