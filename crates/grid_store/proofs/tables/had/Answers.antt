use Rattle.std.proofs.Common.{Some, sym, ap, ◌∙◌}
use Rattle.std.specs.Cmp.{nat_cmp_total}
use Rattle.score_base.proofs.TableMaps.{find_at, find_absent, gap_absent}
use Rattle.grid_store.proofs.tables.had.Goals as goal

pub returns-in-Ok : goal.returns-in-Ok
returns-in-Ok g c =
    let found = c.in-Ok.ensures.found in
    ap (λ e. Some e.1) c.pair.ensures
    ∙ sym (find_at nat_cmp_total c.args.table.now.pairs c.in-Ok.i c.pair.result c.args.t c.in-Ok.ensures.rising found.0 (found.1 c.pair.result))

pub returns-in-Err : goal.returns-in-Err
returns-in-Err g c =
    let pairs = c.args.table.now.pairs in
    sym (find_absent nat_cmp_total pairs c.args.t (gap_absent nat_cmp_total pairs c.args.t c.in-Err.field-0 c.in-Err.ensures.absent))
