use Rattle.std.proofs.Common.{◌≡◌, subst, arith}
use Rattle.std.proofs.lemmas.Grind.{common_steps}
use Rattle.presumed_abort.specs.Turns.{ballot_turn}
use Rattle.presumed_abort.specs.Typed.{IsVoted}
use Rattle.presumed_abort.proofs.desks.Desk.take_vote.Goals as goal

pub returns-in-Some-Collecting : goal.returns-in-Some-Collecting
returns-in-Some-Collecting c = λ c' h.
    let same : (c.in-Some-Collecting.tx ≡ c') =
    grind (
      arith,
      common_steps,
      c.take.ensures.stood,
      c.in-Some-Collecting.is,
      c.in-Some-Collecting.field-0-is,
      c.in-Some-Collecting.tx-is,
      h,
    ) in
    c.voted.ensures (ballot_turn c' c.args.from c.args.ballot.now) c.args.self.now
    (subst (λ y. IsVoted (ballot_turn y c.args.from c.args.ballot.now) c.vote-voted.result) same c.vote-voted.ensures)
    c.requires.there c.take.ensures.away
