use Rattle.std.proofs.Common.{◌≡◌, cond, None, sym, ap, ◌∙◌}
use Rattle.std.specs.Cmp.{nat_cmp_total, unsigned_tied}
use Rattle.std.specs.Ordering.{nat_cmp, eq_by_cmp}
use Rattle.std.specs.Prelude.{slice_index_or}
use Rattle.std.specs.declared.cmp.Ordering.TheVariants.{Equal}
use Rattle.std.proofs.lemmas.Cmp.{ranked}
use Rattle.std.specs.FinMap as map
use Rattle.score_base.specs.declared.ids.TxId.{TxId}
use Rattle.score_base.proofs.TableMaps.{find_remove, find_absent, gap_absent}
use Rattle.grid_store.proofs.TableSteps.{found-none}
use Rattle.grid_store.proofs.tables.lose.Goals as goal

pub returns-in-Ok-clause-pairs : goal.returns-in-Ok-clause-pairs
returns-in-Ok-clause-pairs g c u =
    let pairs = c.args.table.now.pairs in
    let found = c.in-Ok.ensures.found in
    let is : (slice_index_or pairs c.in-Ok.i c.remove.result).0 ≡ c.args.t = ranked _ c.args.t Equal (sym (found.1 c.remove.result)) in
    ap (map.find nat_cmp u) c.remove.ensures.pairs
    ∙ find_remove nat_cmp_total pairs c.in-Ok.i c.remove.result u c.in-Ok.ensures.rising found.0
    ∙ ap (λ b. cond b None (map.find nat_cmp u pairs)) (ap (λ (k : TxId). eq_by_cmp nat_cmp u k) is ∙ unsigned_tied u c.args.t)

pub returns-in-Err-clause-pairs : goal.returns-in-Err-clause-pairs
returns-in-Err-clause-pairs g c u =
    let pairs = c.args.table.now.pairs in
    found-none pairs u c.args.t (find_absent nat_cmp_total pairs c.args.t (gap_absent nat_cmp_total pairs c.args.t c.in-Err.field-0 c.in-Err.ensures.absent))
