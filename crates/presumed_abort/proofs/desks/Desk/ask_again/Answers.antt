use Rattle.std.proofs.Common.{◌≡◌, ◌++◌, ◌∙◌, ap, subst, arith}
use Rattle.std.specs.Prelude.{IfSome, IfNone}
use Rattle.std.proofs.lemmas.Grind.{common_steps}
use Rattle.grid_model.specs.Advances.{request}
use Rattle.presumed_abort.specs.Replies.{request_sent}
use Rattle.presumed_abort.specs.Retries.{turned}
use Rattle.presumed_abort.proofs.Released.{asked-done}
use Rattle.presumed_abort.proofs.desks.Desk.ask_again.Goals as goal

pub returns-clause-turn : goal.returns-clause-turn
returns-clause-turn c = λ r h.
    let same : (c.in-Some-Reading.tx ≡ r) =
    grind (
      arith,
      common_steps,
      c.take.ensures.stood,
      c.in-Some-Reading.is,
      c.in-Some-Reading.field-0-is,
      c.in-Some-Reading.tx-is,
      h,
    ) in
    let cluster = c.args.cluster.now in
    let asked = c.again-request.result in
    let next = c.again-request.new.self in
    asked-done cluster c.args.t r next asked (request cluster r.tx r.op r.tx.progress.turn) c.args.self.now
    c.take.new.self c.put.new.self c.put_request.new.outs.items
    (c.again-request.ensures.sent ∙ ap (λ y. request cluster y.tx y.op y.tx.progress.turn) same)
    (subst (λ y. IfSome asked (λ p. next ≡ turned cluster y)) same c.again-request.ensures.turned)
    (subst (λ y. IfNone asked (next ≡ y)) same c.again-request.ensures.none)
    h c.requires c.take.ensures.away c.put.ensures
    (c.put_request.ensures ∙ ap (λ os. os ++ request_sent asked) c.in_ok-outs.ensures.none)
