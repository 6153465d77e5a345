use Rattle.std.proofs.Common.{reverse}
use Rattle.grid_store.proofs.LockReads.{answers-holder}
use Rattle.grid_store.proofs.store.Store.holder.Goals as goal

pub returns : goal.returns
returns c =
    let s = c.self.inside in
    rw (← c.self.view_is) (answers-holder s.locks (reverse s.records.items) c.args.t c.args.reads.now c.args.writes.now c.holder.result c.self.invariant.locks c.holder.ensures.none c.holder.ensures.holder)
