use Rattle.std.proofs.Common.{refl, ap}
use Rattle.grid_hosts.proofs.Fallen.{compacted}
use Rattle.grid_hosts.proofs.steps.Host+Fused+D.compact.Goals as goal

pub returns-in-Outs : goal.returns-in-Outs
returns-in-Outs g c =
    compacted c.args.self _ c.disarmed.result _ _ c.step-host.ensures c.in-Outs.is c.disarmed.ensures

pub returns-in-Stopped : goal.returns-in-Stopped
returns-in-Stopped g c = compacted c.args.self _ _ _ _ c.step-host.ensures c.in-Stopped.is refl

pub returns-in-Memory : goal.returns-in-Memory
returns-in-Memory g c = compacted c.args.self _ _ _ _ c.step-host.ensures c.in-Memory.is refl
