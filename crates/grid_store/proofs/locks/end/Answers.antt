use Rattle.grid_store.proofs.StableSteps.{ends-settles, ends-abort, ends-commit}
use Rattle.grid_store.proofs.locks.end.Goals as goal

pub returns-in-Commit-clause-settles : goal.returns-in-Commit-clause-settles
returns-in-Commit-clause-settles c d n r top fit a k l =
    let x = c.in-Commit in
    let fit' = rw x.is at fit in
    rw x.is (ends-settles d n r c.args.t _ _ _ _ _ top fit' a k l (ends-commit d n r c.args.t x.f _ _ _ fit' k c.add.ensures.added))

pub returns-in-Abort-clause-settles : goal.returns-in-Abort-clause-settles
returns-in-Abort-clause-settles c d n r top fit a k l =
    let x = c.in-Abort in
    let fit' = rw x.is at fit in
    rw x.is (ends-settles d n r c.args.t _ _ _ _ _ top fit' a k l (ends-abort d n r c.args.t _ _ _ fit' k c.free.ensures.keys c.free.ensures.written))
