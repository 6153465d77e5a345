use Rattle.grid_hosts.proofs.Fitting.{strange-never}
use Rattle.grid_hosts.proofs.openings.open_down.Goals as goal

pub unreachable-requires-in-Strange : goal.unreachable-requires-in-Strange
unreachable-requires-in-Strange g c =
    let s = c.in-Strange.ensures in
    strange-never c.args.cluster.now c.args.id _ c.requires.records s.records c.in-Strange.field-2 c.requires.log
    c.requires.fit (s.log c.requires.tell) s.strange
