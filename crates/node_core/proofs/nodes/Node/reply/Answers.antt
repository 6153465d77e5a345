use Rattle.std.proofs.Common.{refl}
use Rattle.grid_model.specs.declared.events.Event.TheVariants as event
use Rattle.grid_model.specs.declared.messages.Message.TheVariants as message
use Rattle.presumed_abort.specs.Stands.{standing}
use Rattle.presumed_abort.specs.Replies.{reply_turn}
use Rattle.node_core.proofs.HomeTurns.{done-own, done-step}
use Rattle.node_core.proofs.HomeRows.{reply-in}
use Rattle.node_core.proofs.nodes.Node.reply.Goals as goal

pub joined-requires : goal.joined-requires
joined-requires g c =
    let old = c.args.self in
    done-own (event.Deliver c.args.from (message.ReadRep c.args.q.now)) c.args.q.now.t
    (reply_turn c.args.cluster.now c.args.q.now (standing old.desk c.args.q.now.t))
    old.store old.waiting.reads old.desk _ c.in-Ok.outs.items
    (reply-in c.args.cluster.now old.store old.waiting.reads old.desk c.args.from c.args.q.now c.requires.cluster old.own c.requires.fit)
    old.own c.in-Ok.ensures.turn

pub returns-in-Ok : goal.returns-in-Ok
returns-in-Ok g c =
    let old = c.args.self in
    done-step old c.joined.result (event.Deliver c.args.from (message.ReadRep c.args.q.now)) c.args.q.now.t
    (reply_turn c.args.cluster.now c.args.q.now (standing old.desk c.args.q.now.t))
    _ c.in-Ok.outs.items (record { row = λ n gen v. refl; moves = λ o n r m. (r, m) })
    (reply-in c.args.cluster.now old.store old.waiting.reads old.desk c.args.from c.args.q.now c.requires.cluster old.own c.requires.fit)
    c.in-Ok.ensures.turn
    (record {
      store = c.joined.ensures.store;
      waiting = c.joined.ensures.waiting;
      desk = c.joined.ensures.desk;
      pair = c.joined.ensures.pair;
    })
