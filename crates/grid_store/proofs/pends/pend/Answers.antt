use Rattle.grid_store.proofs.QueueSteps.{pending-prepared, pending-ended}
use Rattle.grid_store.proofs.pends.pend.Goals as goal

pub returns-in-Prepared : goal.returns-in-Prepared
returns-in-Prepared c r k =
    let x = c.in-Prepared in
    rw x.is (pending-prepared _ _ r x.t x.home x.parts x.sid x.p x.reads x.writes k c.add.ensures.added)

pub returns-in-Ended : goal.returns-in-Ended
returns-in-Ended c r k =
    let x = c.in-Ended in
    rw x.is (pending-ended _ _ r x.t x.outcome k c.end.ensures.ended)
