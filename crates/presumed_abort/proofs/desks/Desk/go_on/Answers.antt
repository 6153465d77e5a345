use Rattle.std.proofs.Common.{◌≡◌, ◌∙◌, refl, ap, nat_eq, arith}
use Rattle.std.proofs.lemmas.Grind.{common_steps}
use Rattle.indexmap.specs.IndexMap.{insert_entry}
use Rattle.presumed_abort.specs.declared.stands.Stand.TheVariants as stand
use Rattle.presumed_abort.specs.Replies.{taken_turn}
use Rattle.presumed_abort.proofs.Released.{settled-done, put-back}
use Rattle.presumed_abort.proofs.desks.Desk.go_on.Goals as goal

pub returns-in-Ok-clause-turn : goal.returns-in-Ok-clause-turn
returns-in-Ok-clause-turn c = λ r h.
    let same : (c.in-Some-Reading.tx ≡ r) =
    grind (
      arith,
      common_steps,
      c.take.ensures.stood,
      c.in-Some-Reading.is,
      c.in-Some-Reading.field-0-is,
      c.in-Some-Reading.tx-is,
      h,
    ) in
    settled-done (taken_turn c.args.cluster.now c.args.q.now.value c.args.q.now.sid r) c.args.q.now.t c.in-Ok.field-0
    c.stand_of.result c.args.self.now c.take.new.self c.settle.new.self c.in-Ok.field-0.outs.items
    (c.in-Ok.ensures.turn ∙ ap (taken_turn c.args.cluster.now c.args.q.now.value c.args.q.now.sid) same)
    c.stand_of.ensures c.requires c.take.ensures.away c.settle.ensures refl

pub returns-in-Err-clause-err : goal.returns-in-Err-clause-err
returns-in-Err-clause-err c = λ r h.
    let same : (c.in-Some-Reading.tx ≡ r) =
    grind (
      arith,
      common_steps,
      c.take.ensures.stood,
      c.in-Some-Reading.is,
      c.in-Some-Reading.field-0-is,
      c.in-Some-Reading.tx-is,
      h,
    ) in
    put-back c.args.q.now.t (stand.Reading r) c.args.self.now c.take.new.self c.put.new.self h c.take.ensures.away
    (c.put.ensures
    ∙ ap (λ y. insert_entry nat_eq c.take.new.self c.args.q.now.t (stand.Reading y)) (c.in-Err.ensures.err ∙ same))
