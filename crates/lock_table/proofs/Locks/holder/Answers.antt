use Rattle.std.proofs.Common.{min, refl}
use Rattle.lock_table.specs.Table.{locks_of, holds_in, writes_in, meets_in, IsLeastOther}
use Rattle.std.specs.List.{list_any}
use Rattle.lock_table.proofs.Least.{least_of_both}
use Rattle.lock_table.proofs.Conflicts.{no_holder, the_holder}
use Rattle.lock_table.proofs.Locks.holder.Goals as goal

pub returns-clause-none : goal.returns-clause-none
returns-clause-none c =
    let locks = c.self.inside.locks in
    let ls = locks_of locks.pairs in
    let reads = c.args.reads.now in
    let writes = c.args.writes.now in
    let least : IsLeastOther (meets_in ls reads writes) c.args.t c.lesser.result =
    least_of_both (λ u. list_any (λ w. holds_in ls u w.0) writes) (λ u. list_any (λ k. writes_in ls u k) reads)
    (meets_in ls reads writes) c.args.t
    c.least_on_writes.result c.least_on_reads.result c.lesser.result
    (λ u. refl) c.lesser.ensures c.least_on_writes.ensures c.least_on_reads.ensures in
    rw (← c.self.view_is) (no_holder c.lesser.result ls (min locks.spare c.self.inside.taken.spare) c.args.t reads writes least)

pub returns-clause-holder : goal.returns-clause-holder
returns-clause-holder c =
    let locks = c.self.inside.locks in
    let ls = locks_of locks.pairs in
    let reads = c.args.reads.now in
    let writes = c.args.writes.now in
    let least : IsLeastOther (meets_in ls reads writes) c.args.t c.lesser.result =
    least_of_both (λ u. list_any (λ w. holds_in ls u w.0) writes) (λ u. list_any (λ k. writes_in ls u k) reads)
    (meets_in ls reads writes) c.args.t
    c.least_on_writes.result c.least_on_reads.result c.lesser.result
    (λ u. refl) c.lesser.ensures c.least_on_writes.ensures c.least_on_reads.ensures in
    rw (← c.self.view_is) (the_holder c.lesser.result ls (min locks.spare c.self.inside.taken.spare) c.args.t reads writes least)
