use Rattle.std.proofs.Common.{◌≡◌, length}
use Rattle.journal_words.specs.Journals.{keys_of_writes, are_own_keys}
use Rattle.grid_store.proofs.fitness.are_own_writes.Given as goal

abbrev pub invariant-loop-rest : goal.invariant-loop-rest
invariant-loop-rest l = are_own_keys l.cluster l.node (keys_of_writes l.rest) ≡ are_own_keys l.cluster l.node (keys_of_writes l.writes)

abbrev pub decreases-loop-rest : goal.decreases-loop-rest
decreases-loop-rest l = length l.rest
