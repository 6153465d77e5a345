use Rattle.std.proofs.Common.{◌≡◌, ◌++◌, ◌∷◌, [], subst, arith}
use Rattle.std.proofs.lemmas.Grind.{common_steps}
use Rattle.presumed_abort.specs.Turns.{acked_turn}
use Rattle.presumed_abort.specs.Typed.{IsAcked}
use Rattle.presumed_abort.proofs.desks.Desk.take_ack.Goals as goal

pub returns-in-Some-Committed : goal.returns-in-Some-Committed
returns-in-Some-Committed c = λ c' h.
    let same : (c.in-Some-Committed.tx ≡ c') =
    grind (
      arith,
      common_steps,
      c.take.ensures.stood,
      c.in-Some-Committed.is,
      c.in-Some-Committed.field-0-is,
      c.in-Some-Committed.tx-is,
      h,
    ) in
    c.acked.ensures (acked_turn c' (c'.acks ++ c.args.from ∷ [])) c.args.self.now
    (subst (λ y. IsAcked (acked_turn y (y.acks ++ c.args.from ∷ [])) c.ack-acked.result) same c.ack-acked.ensures)
    c.requires.there c.take.ensures.away
