use Rattle.std.proofs.Common.{None, refl}
use Rattle.grid_hosts.proofs.Fallen.{falls}
use Rattle.grid_hosts.proofs.hosts.fallen.Goals as goal

pub returns : goal.returns
returns g c =
    falls c.args.node _ _ _ _ c.crashed.result c.crashed-2.result None None c.count.result c.generation.result
    c.at-fall.result c.stop-first.ensures.first c.stop-first.ensures.last c.crashed.ensures c.crashed-2.ensures refl
    c.count.ensures c.generation.ensures c.at-fall.ensures
