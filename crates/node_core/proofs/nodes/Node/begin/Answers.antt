use Rattle.std.proofs.Common.{refl}
use Rattle.grid_model.specs.declared.events.Event.TheVariants as event
use Rattle.presumed_abort.specs.Replies.{begin_turn}
use Rattle.node_core.proofs.HomeTurns.{done-own, done-step}
use Rattle.node_core.proofs.HomeRows.{begin-in, begin-free}
use Rattle.node_core.proofs.nodes.Node.begin.Goals as goal

pub begin-requires : goal.begin-requires
begin-requires g c =
    let old = c.args.self in
    begin-free old.store old.waiting.reads old.desk c.args.script c.args.floor old.own c.requires.fit

pub joined-requires : goal.joined-requires
joined-requires g c =
    let old = c.args.self in
    done-own (event.Begin c.args.script c.args.floor) c.args.script.number
    (begin_turn c.args.cluster.now c.args.script c.begins_at-sid0.result)
    old.store old.waiting.reads old.desk _ c.in-Ok.outs.items
    (begin-in c.args.cluster.now old.store old.waiting.reads old.desk c.args.script c.args.floor c.begins_at-sid0.result
    c.requires.cluster c.begins_at-sid0.ensures old.own c.requires.fit)
    old.own c.in-Ok.ensures.turn

pub returns-in-Ok : goal.returns-in-Ok
returns-in-Ok g c =
    let old = c.args.self in
    done-step old c.joined.result (event.Begin c.args.script c.args.floor) c.args.script.number
    (begin_turn c.args.cluster.now c.args.script c.begins_at-sid0.result)
    _ c.in-Ok.outs.items (record { row = λ n gen v. refl; moves = λ o n r m. (r, m) })
    (begin-in c.args.cluster.now old.store old.waiting.reads old.desk c.args.script c.args.floor c.begins_at-sid0.result
    c.requires.cluster c.begins_at-sid0.ensures old.own c.requires.fit)
    c.in-Ok.ensures.turn
    (record {
      store = c.joined.ensures.store;
      waiting = c.joined.ensures.waiting;
      desk = c.joined.ensures.desk;
      pair = c.joined.ensures.pair;
    })
