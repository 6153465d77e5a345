use Rattle.std.proofs.Common.{reverse, arith}
use Rattle.std.proofs.lemmas.Bool.Decides.{nat_tests}
use Rattle.grid_store.proofs.NumberSteps.{above-highest}
use Rattle.grid_store.proofs.store.Store.is_above.Goals as goal

pub returns : goal.returns
returns c =
    let s = c.self.inside in
    let i = c.self.invariant in
    let is = above-highest c.args.p (reverse s.records.items) c.requires in
    rw (← c.self.view_is) (grind (arith, nat_tests, c.lt.ensures, i.high, is))
