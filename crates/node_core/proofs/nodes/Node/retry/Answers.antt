use Rattle.std.proofs.Common.{refl}
use Rattle.grid_model.specs.declared.events.Event.TheVariants as event
use Rattle.presumed_abort.specs.Stands.{standing}
use Rattle.presumed_abort.specs.Retries.{retry_turn}
use Rattle.node_core.proofs.HomeTurns.{done-own, done-step}
use Rattle.node_core.proofs.HomeRows.{retry-in}
use Rattle.node_core.proofs.nodes.Node.retry.Goals as goal

pub joined-requires : goal.joined-requires
joined-requires g c =
    let old = c.args.self in
    done-own (event.Retry c.args.t) c.args.t
    (retry_turn c.args.cluster.now (standing old.desk c.args.t))
    old.store old.waiting.reads old.desk _ c.in-Ok.outs.items
    (retry-in c.args.cluster.now old.store old.waiting.reads old.desk c.args.t c.requires.cluster old.own)
    old.own c.in-Ok.ensures.turn

pub returns-in-Ok : goal.returns-in-Ok
returns-in-Ok g c =
    let old = c.args.self in
    done-step old c.joined.result (event.Retry c.args.t) c.args.t
    (retry_turn c.args.cluster.now (standing old.desk c.args.t))
    _ c.in-Ok.outs.items (record { row = λ n gen v. refl; moves = λ o n r m. (r, m) })
    (retry-in c.args.cluster.now old.store old.waiting.reads old.desk c.args.t c.requires.cluster old.own)
    c.in-Ok.ensures.turn
    (record {
      store = c.joined.ensures.store;
      waiting = c.joined.ensures.waiting;
      desk = c.joined.ensures.desk;
      pair = c.joined.ensures.pair;
    })
