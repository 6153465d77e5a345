use Rattle.std.proofs.Common.{take}
use Rattle.std.specs.List.{list_any}
use Rattle.lock_table.specs.Table.{locks_of, holds_in, IsLeastOther}
use Rattle.lock_table.proofs.least_on_writes.Given as goal

abbrev pub invariant-loop-write : goal.invariant-loop-write
invariant-loop-write l =
    IsLeastOther (λ u. list_any (λ w. holds_in (locks_of l.locks.pairs) u w.0) (take l.write-index l.writes)) l.t
    l.least
