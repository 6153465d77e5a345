use Rattle.std.proofs.Common.{◌≡◌, take, reverse}
use Rattle.journal_words.specs.Journals.{up_to}
use Rattle.journal_words.proofs.records.pairs.PairList.up_to.Given as goal

abbrev pub invariant-loop-pair : goal.invariant-loop-pair
invariant-loop-pair l = l.pairs ≡ up_to l.ident (reverse (take l.pair-index l.pair-items))
