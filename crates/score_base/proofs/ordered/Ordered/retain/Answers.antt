use Rattle.score_base.proofs.TableOrder.{rising_retain}
use Rattle.score_base.proofs.ordered.Ordered.retain.Goals as goal

pub invariant_of-self : goal.invariant_of-self
invariant_of-self g c = rising_retain g.K.Ord.cmp _ _ c.self.inside.items.items _ c.retain.ensures.filtered c.self.invariant
