use Rattle.std.proofs.Common.{◌≡◌, drop, reverse}
use Rattle.journal_words.specs.Journals.{newer}
use Rattle.journal_words.proofs.records.conflicts.newer.Given as goal

abbrev pub invariant-loop-key : goal.invariant-loop-key
invariant-loop-key l =
    newer (reverse l.records) (drop l.key-index l.reads) l.sid ≡ newer (reverse l.records) l.reads l.sid
