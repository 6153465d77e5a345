use Rattle.std.proofs.Common.{arith, ◌≡◌, ◌+◌, ◌-◌, ◌^◌, ◌<◌, ◌≤◌, subst, sym}
use Rattle.score_base.proofs.TableOrder.{narrow_less, narrow_greater, halved_more, cost_more, few_steps}
use Rattle.score_base.proofs.ordered.Ordered.find.Goals as goal

pub compare-requires-clause-small : goal.compare-requires-clause-small
compare-requires-clause-small g c =
    let i = c.loop-low.invariant in
    let few : c.loop-low.steps - c.args.steps.now ≤ 66 = few_steps _ _ i.cost (subst (λ n. n < 2 ^ 64) c.len-high.ensures.value c.len-high.type_inv) in
    omega (arith, few, c.requires)

pub loop-low-preserved-in-Less : goal.loop-low-preserved-in-Less
loop-low-preserved-in-Less g c =
    let i = c.loop-low.invariant in
    let t : c.compare.new.steps - c.args.steps.now ≡ (c.loop-low.steps - c.args.steps.now) + 1 = omega (arith, c.compare.ensures.step, i.later) in
    record {
      narrows = narrow_less g.met.K.Ord.total _ _ c.loop-low.low c.loop-low.high _ c.len-high.ensures.rising i.narrows (omega arith) (λ d. sym (c.in-Less.ensures.order d));
      later = omega (arith, c.compare.ensures.step, i.later);
      halved = rw t (halved_more _ (c.loop-low.high - c.loop-low.low) _ _ i.halved (omega arith));
      cost = rw t (cost_more _ (c.loop-low.high - c.loop-low.low) _ i.halved (omega arith));
    }

pub returns-in-Equal-clause-cost : goal.returns-in-Equal-clause-cost
returns-in-Equal-clause-cost g c =
    let i = c.loop-low.invariant in
    let t : c.compare.new.steps - c.args.steps.now ≡ (c.loop-low.steps - c.args.steps.now) + 1 = omega (arith, c.compare.ensures.step, i.later) in
    rw t (cost_more _ (c.loop-low.high - c.loop-low.low) _ i.halved (omega arith))

pub loop-low-preserved : goal.loop-low-preserved
loop-low-preserved g c =
    let i = c.loop-low.invariant in
    let t : c.compare.new.steps - c.args.steps.now ≡ (c.loop-low.steps - c.args.steps.now) + 1 = omega (arith, c.compare.ensures.step, i.later) in
    record {
      narrows = narrow_greater g.met.K.Ord.total _ _ c.loop-low.low c.loop-low.high _ c.len-high.ensures.rising i.narrows (omega arith) (omega arith) (λ d. sym (c.in-Greater.ensures.order d));
      later = omega (arith, c.compare.ensures.step, i.later);
      halved = rw t (halved_more _ (c.loop-low.high - c.loop-low.low) _ _ i.halved (omega arith));
      cost = rw t (cost_more _ (c.loop-low.high - c.loop-low.low) _ i.halved (omega arith));
    }
