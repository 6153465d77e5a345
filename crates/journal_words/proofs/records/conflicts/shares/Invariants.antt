use Rattle.std.proofs.Common.{◌≡◌, drop}
use Rattle.journal_words.specs.Journals.{shares}
use Rattle.journal_words.proofs.records.conflicts.shares.Given as goal

abbrev pub invariant-loop-key : goal.invariant-loop-key
invariant-loop-key l = shares (drop l.key-index l.keys) l.others ≡ shares l.keys l.others
