use Rattle.std.proofs.Common.{take}
use Rattle.std.specs.List.{list_any}
use Rattle.lock_table.specs.Table.{locks_of, writes_in, IsLeastOther}
use Rattle.lock_table.proofs.least_on_reads.Given as goal

abbrev pub invariant-loop-key : goal.invariant-loop-key
invariant-loop-key l =
    IsLeastOther (λ u. list_any (λ k. writes_in (locks_of l.locks.pairs) u k) (take l.key-index l.reads)) l.t l.least
