use Rattle.std.proofs.Common.{◌≡◌, ◌≤◌, ◌+◌, length, sym, subst, arith}
use Rattle.std.specs.Vec.{vec_len, vec_capacity}
use Rattle.std.proofs.lemmas.Grind.{common_steps}
use Rattle.score_base.specs.Tables.{IsRising, merged}
use Rattle.score_base.proofs.TableMerge.{rising_merged}
use Rattle.score_base.proofs.ordered.Ordered.merge.Goals as goal

pub invariant_of-self : goal.invariant_of-self
invariant_of-self g c =
    let cmp = g.K.Ord.cmp in
    let old = c.self.inside.items.items in
    let more = c.more.inside.items.items in
    let pairs : c.drop-drain.new.self.0.items ≡ merged cmp old more = grind (arith, common_steps) in
    subst (IsRising cmp) (sym pairs) (rising_merged g.met.K.Ord.total old more c.self.invariant)

pub returns-clause-spare : goal.returns-clause-spare
returns-clause-spare g c =
    let room : vec_capacity c.self.inside.items ≤ vec_capacity c.drop-drain.new.self.0 = grind (arith, common_steps) in
    let few : vec_len c.drop-drain.new.self.0 ≤ vec_len c.self.inside.items + length c.more.inside.items.items = grind (arith, common_steps) in
    rw (← c.self.view_is, ← c.more.view_is) (omega (arith, room, few))
