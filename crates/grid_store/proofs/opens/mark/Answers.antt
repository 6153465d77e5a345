use Rattle.grid_store.proofs.OpenSteps.{open-decided, open-closed}
use Rattle.grid_store.proofs.opens.mark.Goals as goal

pub returns-in-Decided : goal.returns-in-Decided
returns-in-Decided c r k = (let x = c.in-Decided in rw x.is (open-decided _ _ r x.t x.f x.parts c.give.ensures.pairs k))

pub returns-in-Closed : goal.returns-in-Closed
returns-in-Closed c r k = (let x = c.in-Closed in rw x.is (open-closed _ _ r x.t c.lose.ensures.pairs k))
