use Rattle.std.proofs.Common.{◌≡◌, take, reverse}
use Rattle.journal_words.specs.Journals.{greatest}
use Rattle.journal_words.proofs.records.pairs.PairList.greatest.Given as goal

abbrev pub invariant-loop-pair : goal.invariant-loop-pair
invariant-loop-pair l = l.most ≡ greatest (reverse (take l.pair-index l.pair-items))
