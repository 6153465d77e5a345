use Rattle.std.proofs.Common.{refl}
use Rattle.grid_model.specs.declared.events.Event.TheVariants as event
use Rattle.grid_model.specs.declared.messages.Message.TheVariants as message
use Rattle.node_journal.specs.PairDisks.{HasPairRoom}
use Rattle.presumed_abort.specs.Stands.{standing}
use Rattle.presumed_abort.specs.Turns.{ack_turn}
use Rattle.node_core.specs.Homes.{HasHomeRoom}
use Rattle.node_core.proofs.Afterwards.{went-well}
use Rattle.node_core.proofs.HomeTurns.{same-own, can-turn, turned-step}
use Rattle.node_core.proofs.HomeRows.{ack-in, ack-fits, ack-there}
use Rattle.node_core.proofs.nodes.Node.ack.Goals as goal

pub joined-requires : goal.joined-requires
joined-requires g c =
    let old = c.args.self in
    same-own old.store old.waiting.reads old.desk c.room_for_home.new.store old.desk c.room_for_home.ensures.store refl
    old.own

pub turned-requires : goal.turned-requires
turned-requires g c =
    let old = c.args.self in
    can-turn (event.Deliver c.args.from (message.Ack c.args.t)) c.args.t
    (ack_turn c.args.from (standing old.desk c.args.t))
    old.store old.waiting.reads old.desk c.room_for_home.new.store c.ack.new.self c.room_for_home.new.pair c.in-Ok.turn
    (ack-in old.store old.waiting.reads old.desk c.args.from c.args.t old.own c.requires.fit)
    old.own c.room_for_home.ensures.store
    (went-well (HasHomeRoom c.room_for_home.new.store.room) c.room_for_home.result c.if-is_err.ensures.value
    c.room_for_home.ensures.room)
    (went-well (HasPairRoom c.room_for_home.new.pair) c.room_for_home.result c.if-is_err.ensures.value
    c.room_for_home.ensures.pair_room)
    (λ r is. ack-fits old.store old.waiting.reads old.desk c.args.from c.args.t r old.own is)
    (λ r is. ack-there c.args.from (standing old.desk c.args.t) r is)
    c.in-Ok.ensures.turn

pub joined-requires-in-Err : goal.joined-requires-in-Err
joined-requires-in-Err g c =
    let old = c.args.self in
    same-own old.store old.waiting.reads old.desk c.room_for_home.new.store c.ack.new.self c.room_for_home.ensures.store
    c.in-Err.ensures.err old.own

pub returns-in-Ok : goal.returns-in-Ok
returns-in-Ok g c =
    let old = c.args.self in
    turned-step old (event.Deliver c.args.from (message.Ack c.args.t)) c.args.t
    (ack_turn c.args.from (standing old.desk c.args.t))
    c.room_for_home.new.store c.ack.new.self c.room_for_home.new.pair c.in-Ok.turn c.turned.result
    (record { row = λ n gen v. refl; moves = λ o n r m. (r, m) })
    (ack-in old.store old.waiting.reads old.desk c.args.from c.args.t old.own c.requires.fit)
    c.room_for_home.ensures.store c.room_for_home.ensures.pair
    (λ r is. ack-there c.args.from (standing old.desk c.args.t) r is)
    c.in-Ok.ensures.turn c.turned.ensures
