use Rattle.std.proofs.Common.{◌≡◌, Ok, sym, subst}
use Rattle.score_disk.specs.Files.{File}
use Rattle.node_journal.specs.Pairs.{in_order, pair_log, listed_in}
use Rattle.node_journal.proofs.Compactions.{seated, placed_log}
use Rattle.node_journal.proofs.pair.Pair.stop.Goals as goal

pub returns-clause-log : goal.returns-clause-log
returns-clause-log g c = λ t.
    let p = c.args.self in
    let file = g.D.Disk.file in
    let records = listed_in p.listed.items in
    seated file p.second c.stop.result p.other c.in_places.result.0 c.in_places.result.1
    (λ a b. pair_log a.seen b.seen ≡ Ok records) c.in_places.ensures.first c.in_places.ensures.last
    (subst (λ d. in_order p.second (λ (a b : File). pair_log a.seen b.seen ≡ Ok records) (file d) (file p.other))
    (sym c.stop.ensures.disk)
    (placed_log p.second (file p.live.disk) (file p.other) records (p.is_live t.0 t.1) (p.same t.0)))
