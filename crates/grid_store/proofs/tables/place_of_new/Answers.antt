use Rattle.std.specs.Cmp.{nat_cmp_total}
use Rattle.pending_queue.proofs.Alike.{there_is_no_key}
use Rattle.grid_store.proofs.tables.place_of_new.Goals as goal

pub returns-in-Ok : goal.returns-in-Ok
returns-in-Ok g c =
    let found = c.in-Ok.ensures.found in
    absurd (there_is_no_key nat_cmp_total c.args.table.now.pairs c.in-Ok.i c.args.t c.in-Ok.ensures.rising found.0 found.1 c.requires)
