use Rattle.std.proofs.Common.{◌≡◌, take, reverse}
use Rattle.journal_words.specs.Journals.{best}
use Rattle.journal_words.proofs.records.values.best.Given as goal

abbrev pub invariant-loop-pair : goal.invariant-loop-pair
invariant-loop-pair l = l.found ≡ best (reverse l.records) l.key l.fn.start (reverse (take l.pair-index l.pair-items))
