use Rattle.std.proofs.Common.{refl}
use Rattle.grid_model.specs.declared.events.Event.TheVariants as event
use Rattle.grid_model.specs.declared.messages.Message.TheVariants as message
use Rattle.presumed_abort.specs.Stands.{standing}
use Rattle.presumed_abort.specs.Retries.{sent_again, told_of}
use Rattle.node_core.proofs.HomeTurns.{done-step}
use Rattle.node_core.proofs.HomeRows.{ask-in}
use Rattle.node_core.proofs.nodes.Node.asked.Goals as goal

pub returns-in-Ok : goal.returns-in-Ok
returns-in-Ok g c =
    let old = c.args.self in
    let t = c.args.t in
    let x = c.args.from in
    done-step old c.joined.result (event.Deliver x (message.Ask t)) t (sent_again (told_of t x (standing old.desk t)))
    old.desk c.in-Ok.outs.items (record { row = λ n gen v. refl; moves = λ o n r m. (r, m) })
    (ask-in old.store old.waiting.reads old.desk x t old.own c.requires.fit)
    (record { outs_are = c.in-Ok.ensures; none = refl; desk = refl })
    (record {
      store = c.joined.ensures.store;
      waiting = c.joined.ensures.waiting;
      desk = c.joined.ensures.desk;
      pair = c.joined.ensures.pair;
    })
