use Rattle.std.proofs.Common.{◌≡◌, ◌++◌, drop}
use Rattle.journal_words.specs.Journals.{keys_of_writes}
use Rattle.journal_words.proofs.records.conflicts.keys_in.Given as goal

abbrev pub invariant-loop-write : goal.invariant-loop-write
invariant-loop-write l = l.keys ++ keys_of_writes (drop l.write-index l.writes) ≡ keys_of_writes l.writes
