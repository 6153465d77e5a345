use Rattle.journal_words.proofs.Fits.{newest-fits}
use Rattle.grid_store.proofs.LockSteps.{locks-prepared, locks-ceiling, locks-decided, locks-closed}
use Rattle.grid_store.proofs.StableSteps.{keeps-settles, stable-prepared}
use Rattle.grid_store.proofs.locks.take.Goals as goal

pub take-requires-clause-free : goal.take-requires-clause-free
take-requires-clause-free c =
    let can = rw c.in-Prepared.is at c.requires.free in
    rw (c.as_slice.ensures, c.as_slice-in-Prepared.ensures) can.0

pub returns-in-Prepared-clause-settles : goal.returns-in-Prepared-clause-settles
returns-in-Prepared-clause-settles c d n r top fit a k l =
    let x = c.in-Prepared in
    let fit' = rw x.is at (newest-fits d n c.args.rec.now r fit) in
    let keys = rw (c.as_slice.ensures, c.as_slice-in-Prepared.ensures) at c.take.ensures.keys in
    let written = rw c.as_slice-in-Prepared.ensures at c.take.ensures.written in
    rw x.is (keeps-settles _ c.take.new.self top _ (record { most = a.most; one = a.one })
    (stable-prepared d n _ r x.t x.home x.parts x.sid x.p x.reads x.writes fit' k)
    (locks-prepared d n c.args.locks.now c.take.new.self r x.t x.home x.parts x.sid x.p x.reads x.writes l fit' keys written))

pub returns-in-Ended-clause-settles : goal.returns-in-Ended-clause-settles
returns-in-Ended-clause-settles c d n r top fit a k l = (let x = c.in-Ended in rw x.is (c.end.ensures.settles d n r top (rw x.is at fit) a k l))

pub returns-in-Ceiling-clause-settles : goal.returns-in-Ceiling-clause-settles
returns-in-Ceiling-clause-settles c d n r top fit a k l = rw c.in-Ceiling.is (keeps-settles _ c.args.locks.now top _ (record { most = a.most; one = a.one }) (λ f t. k f t) (locks-ceiling c.args.locks.now r c.in-Ceiling.c l))

pub returns-in-Decided-clause-settles : goal.returns-in-Decided-clause-settles
returns-in-Decided-clause-settles c d n r top fit a k l = rw c.in-Decided.is (keeps-settles _ c.args.locks.now top _ (record { most = a.most; one = a.one }) (λ f t. k f t) (locks-decided c.args.locks.now r c.in-Decided.t c.in-Decided.f c.in-Decided.parts l))

pub returns-in-Closed-clause-settles : goal.returns-in-Closed-clause-settles
returns-in-Closed-clause-settles c d n r top fit a k l = rw c.in-Closed.is (keeps-settles _ c.args.locks.now top _ (record { most = a.most; one = a.one }) (λ f t. k f t) (locks-closed c.args.locks.now r c.in-Closed.t l))

pub returns-in-Ended-clause-commits : goal.returns-in-Ended-clause-commits
returns-in-Ended-clause-commits c = rw c.in-Ended.is c.end.ensures.commits
