use Rattle.std.proofs.Common.{cond, Some, ap, ◌∙◌}
use Rattle.std.specs.Cmp.{nat_cmp_total, unsigned_tied}
use Rattle.std.specs.Ordering.{nat_cmp}
use Rattle.std.specs.FinMap as map
use Rattle.score_base.proofs.TableMaps.{find_insert, gap_absent}
use Rattle.grid_store.proofs.tables.give.Goals as goal

pub returns-clause-pairs : goal.returns-clause-pairs
returns-clause-pairs g c u =
    let pairs = c.args.table.now.pairs in
    let i = c.place_of_new-i.result in
    let gap = c.place_of_new-i.ensures in
    ap (map.find nat_cmp u) c.insert.ensures.pairs
    ∙ find_insert nat_cmp_total pairs i c.args.t c.args.value u gap.within (gap_absent nat_cmp_total pairs c.args.t i gap)
    ∙ ap (λ b. cond b (Some c.args.value) (map.find nat_cmp u pairs)) (unsigned_tied u c.args.t)
