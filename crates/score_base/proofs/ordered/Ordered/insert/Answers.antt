use Rattle.std.proofs.Common.{subst, sym}
use Rattle.score_base.specs.Tables.{Table, IsGap}
use Rattle.score_base.proofs.TableOrder.{rising_insert}
use Rattle.score_base.proofs.ordered.Ordered.insert.Goals as goal

pub invariant_of-self : goal.invariant_of-self
invariant_of-self g c =
    let items = rw c.unwrap.ensures at c.insert.ensures.items in
    let place = subst (λ (x : Table g.row.K.Denot g.row.V.Denot). IsGap g.K.Ord.cmp x.pairs c.args.key c.args.i) (sym c.self.view_is) c.requires.place in
    rw items (rising_insert g.met.K.Ord.total c.self.inside.items.items c.args.key c.args.value c.args.i c.self.invariant place)
