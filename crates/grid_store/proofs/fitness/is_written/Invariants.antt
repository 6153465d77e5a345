use Rattle.std.proofs.Common.{◌≡◌, drop}
use Rattle.script_lang.specs.Reads.{is_key_among}
use Rattle.journal_words.specs.Journals.{keys_of_writes}
use Rattle.grid_store.proofs.fitness.is_written.Given as goal

abbrev pub invariant-loop-write : goal.invariant-loop-write
invariant-loop-write l = is_key_among l.key (keys_of_writes (drop l.write-index l.writes)) ≡ is_key_among l.key (keys_of_writes l.writes)
