use Rattle.std.proofs.Common.{rules}
use Rattle.score_base.proofs.TableOrder.{rising_remove}
use Rattle.score_base.proofs.ordered.Ordered.remove.Goals as goal

pub invariant_of-self : goal.invariant_of-self
invariant_of-self g c = rw c.remove.ensures.items (rising_remove g.K.Ord.cmp c.self.inside.items.items c.args.i (search rules) c.self.invariant)
