use Rattle.grid_store.proofs.PlaceSteps.{outcomes-ended}
use Rattle.grid_store.proofs.outcomes.end.Goals as goal

pub returns-in-Ended : goal.returns-in-Ended
returns-in-Ended c r k =
    let x = c.in-Ended in
    rw x.is (outcomes-ended _ _ r x.t x.outcome c.give.ensures.pairs k)
