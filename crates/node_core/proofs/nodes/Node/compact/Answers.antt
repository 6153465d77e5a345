use Rattle.std.proofs.Common.{◌++◌, [], ◌∷◌, sym, ap, subst, ◌∙◌, arith}
use Rattle.grid_model.specs.declared.acts.Act.TheVariants as act
use Rattle.grid_model.specs.declared.events.Out.TheVariants as out
use Rattle.node_journal.specs.PairDisks.{IsReady}
use Rattle.node_core.specs.Steps.{IsCompacted}
use Rattle.node_core.proofs.Afterwards.{went-well}
use Rattle.node_core.proofs.Compacted.{before-last, compact-done, then-compacted, then-small}
use Rattle.node_core.proofs.nodes.Node.compact.Goals as goal

pub compact-requires-clause-ready : goal.compact-requires-clause-ready
compact-requires-clause-ready g c =
    went-well (IsReady c.room_for.new.self c.in-Ok.records.items) c.room_for.result c.if-is_err-2.ensures.value
    c.room_for.ensures.ready

pub push_reserved-requires : goal.push_reserved-requires
push_reserved-requires g c =
    let room = went-well _ c.reserve.result c.if-is_err.ensures.value c.reserve.ensures.ok in
    omega (arith, room)

pub returns-in-Ok-compact : goal.returns-in-Ok-compact
returns-in-Ok-compact g c =
    let old = c.args.self in
    let m = c.room_for.new.self in
    let new = c.joined-in-Ok-compact.result in
    compact-done old new c.push_reserved.new.self.items
    (record {
      store = c.joined-in-Ok-compact.ensures.store;
      waiting = c.joined-in-Ok-compact.ensures.waiting;
      desk = c.joined-in-Ok-compact.ensures.desk;
    })
    (before-last old.pair.number (λ last. c.if-generation.false (c.generation.ensures.value ∙ last)))
    (subst (IsCompacted old.pair) (sym c.joined-in-Ok-compact.ensures.pair)
    (then-compacted old.pair m c.in-Ok-compact.pair c.in-Ok.records.items c.room_for.ensures.live
    c.room_for.ensures.other c.room_for.ensures.second c.room_for.ensures.number c.in-Ok.ensures.small
    c.in-Ok-compact.ensures.list c.in-Ok-compact.ensures.compacted c.in-Ok-compact.ensures.number
    c.in-Ok-compact.ensures.turned c.in-Ok-compact.ensures.live_left c.in-Ok-compact.ensures.spent))
    (c.push_reserved.ensures.items
    ∙ ap (λ os. os ++ out.Act (act.Compacted c.node-n.result) ∷ []) (c.reserve.ensures.items ∙ c.new-outs.ensures.items)
    ∙ ap (λ n. out.Act (act.Compacted n) ∷ []) c.node-n.ensures)

pub returns-in-Err-compact : goal.returns-in-Err-compact
returns-in-Err-compact g c =
    let stopped = c.in-Err-compact.stopped in
    let e = c.in-Err-compact.ensures in
    then-small c.args.self c.room_for.new.self stopped.first stopped.second c.room_for.ensures.live
    c.room_for.ensures.other c.room_for.ensures.second c.room_for.ensures.list c.room_for.ensures.number e.stopped e.early e.stopped_log e.early_log e.live_kept e.halted
