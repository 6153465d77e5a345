use Rattle.std.proofs.Common.{refl, ap, Some}
use Rattle.grid_hosts.proofs.Fallen.{falls, stopped-down}
use Rattle.grid_hosts.proofs.steps.step_up.Goals as goal

pub returns-in-Down : goal.returns-in-Down
returns-in-Down g c =
    let first = c.in-Down.first in
    let second = c.in-Down.second in
    stopped-down c.args.node c.args.event c.in-Down.head _ first second c.in-Down.ensures
    (falls c.args.node first second first second c.crashed.result c.crashed-in-Down.result
    (Some c.copied.result) (Some c.in-Down.head) c.count-count.result c.generation-generation.result c.at-fall.result
    refl refl c.crashed.ensures c.crashed-in-Down.ensures (ap Some c.copied.ensures) c.count-count.ensures
    c.generation-generation.ensures c.at-fall.ensures)
