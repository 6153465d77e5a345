use Rattle.grid_store.proofs.ClockSteps.{clock-prepared}
use Rattle.grid_store.proofs.clocks.learn.Goals as goal

pub returns-in-Prepared-clause-keeps : goal.returns-in-Prepared-clause-keeps
returns-in-Prepared-clause-keeps c r k =
    let x = c.in-Prepared in
    rw x.is (clock-prepared _ _ r x.t x.home x.parts x.sid x.p x.reads x.writes k c.learn.ensures.floor c.learn.ensures.next)
