use Rattle.std.proofs.Common.{subst}
use Rattle.node_core.specs.Openings.{IsReplayedAs}
use Rattle.node_core.proofs.OpenedNodes.{opened-of}
use Rattle.node_core.proofs.nodes.Node.open.Goals as goal

pub returns-in-Ok : goal.returns-in-Ok
returns-in-Ok g c =
    opened-of g.D.Disk c.args.id c.args.cluster.now c.args.first c.args.second c.in-Ok.opened.0 c.in-Ok.opened.1.items
    c.replay.result
    (record {
      list = c.in-Ok.ensures.list;
      log = λ t. c.in-Ok.ensures.log t.0 t.1;
      rest = λ t. c.in-Ok.ensures.rest t.0 t.1;
      disks = c.in-Ok.ensures.opened;
      first_only = λ t. c.in-Ok.ensures.first_only t.0 t.1;
      kept = λ t how. c.in-Ok.ensures.kept t.0 t.1 how;
      anew = λ t live short. c.in-Ok.ensures.anew t.0 t.1 live short;
    })
    (subst (λ rs. IsReplayedAs g.D.Disk c.args.id c.args.cluster.now rs c.in-Ok.opened.0 c.replay.result)
    c.as_slice.ensures.value c.replay.ensures)
