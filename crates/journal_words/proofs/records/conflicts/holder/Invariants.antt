use Rattle.std.proofs.Common.{◌≡◌, take, reverse}
use Rattle.journal_words.specs.Journals.{holder_among, prepared_all}
use Rattle.journal_words.proofs.records.conflicts.holder.Given as goal

abbrev pub invariant-loop-rec : goal.invariant-loop-rec
invariant-loop-rec l =
    l.found
    ≡ holder_among (prepared_all (reverse (take l.rec-index l.records))) (reverse l.records) l.t l.reads l.writes
