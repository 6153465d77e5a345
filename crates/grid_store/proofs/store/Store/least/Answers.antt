use Rattle.std.proofs.Common.{reverse}
use Rattle.grid_store.proofs.ClearSteps.{least-none, least-pending, least-clear}
use Rattle.grid_store.proofs.store.Store.least.Goals as goal

pub returns-clause-none : goal.returns-clause-none
returns-clause-none c =
    let s = c.self.inside in
    rw (← c.self.view_is) (least-none c.least.result s.pending.proposals (reverse s.records.items) c.self.invariant.queue c.least.ensures.none)

pub returns-clause-least : goal.returns-clause-least
returns-clause-least c =
    let s = c.self.inside in
    rw (← c.self.view_is) (least-pending c.least.result s.pending.proposals (reverse s.records.items) c.self.invariant.queue c.least.ensures.least)

pub returns-clause-clear : goal.returns-clause-clear
returns-clause-clear c f =
    let s = c.self.inside in
    rw (← c.self.view_is) (least-clear s.cluster s.node f c.least.result s.pending.proposals (reverse s.records.items) c.self.invariant.fit c.self.invariant.queue c.least.ensures.none c.least.ensures.least)
