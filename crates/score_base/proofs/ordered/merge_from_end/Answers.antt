use Rattle.std.proofs.Common.{◌<◌, ◌≤◌, length, sym, subst, ◌∙◌, arith}
use Rattle.std.proofs.lemmas.List.{length-take-le}
use Rattle.score_base.specs.Tables.{IsRising}
use Rattle.score_base.proofs.TableMerge.{rising_fewer, turn_gap, turn_found, turn_none}
use Rattle.score_base.proofs.ordered.merge_from_end.Goals as goal

pub loop-left-preserved-in-Ok : goal.loop-left-preserved-in-Ok
loop-left-preserved-in-Ok g c =
    let n = c.loop-left in
    let h = n.invariant in
    let i = c.in-Ok.i in
    let e = c.put_behind-high.ensures in
    let o = g.met.K.Ord.total in
    let some : 0 < n.left = c.loop-left-test.true in
    let long : n.low ≤ length n.items = omega (arith, h.order, h.within) in
    let before : i < n.low = c.in-Ok.ensures.found.0 in
    record {
      len = e.len ∙ h.len;
      order = omega (arith, h.order, some, e.place, before);
      within = omega (arith, h.order, some, e.place, e.len, before, h.within);
      front = omega (arith, before, h.front);
      few = omega (arith, h.few);
      rising = subst (IsRising g.K.Ord.cmp) (sym (e.front i (omega arith))) (rising_fewer o n.items i n.low (omega (arith, before)) long h.rising);
      merged = rw (e.front i (omega arith), e.behind)
          (turn_found o n.items c.args.more.now _ n.low n.left n.high i c.index-more-left.result long some h.few h.rising c.requires.more c.index-more-left.is h.merged before c.in-Ok.ensures.found.1);
    }

pub loop-left-preserved : goal.loop-left-preserved
loop-left-preserved g c =
    let n = c.loop-left in
    let h = n.invariant in
    let i = c.in-Err.i in
    let e = c.put_behind-high-in-Err.ensures in
    let o = g.met.K.Ord.total in
    let some : 0 < n.left = c.loop-left-test.true in
    let long : n.low ≤ length n.items = omega (arith, h.order, h.within) in
    let before : i ≤ n.low = omega (arith, c.in-Err.ensures.absent.within, length-take-le n.low n.items long) in
    record {
      len = e.len ∙ h.len;
      order = omega (arith, h.order, some, e.place, before);
      within = omega (arith, h.order, some, e.place, e.len, before, h.within);
      front = omega (arith, before, h.front);
      few = omega (arith, h.few);
      rising = subst (IsRising g.K.Ord.cmp) (sym (e.front i (omega arith))) (rising_fewer o n.items i n.low (omega (arith, before)) long h.rising);
      merged = rw (e.front i (omega arith), e.behind)
          (turn_gap o n.items c.args.more.now _ n.low n.left n.high i c.index-more-left.result long some h.few h.rising c.requires.more c.index-more-left.is h.merged c.in-Err.ensures.absent);
    }

pub returns-clause-merged : goal.returns-clause-merged
returns-clause-merged g c = turn_none g.met.K.Ord.total _ c.args.more.now _ _ c.loop-left.left (omega (arith, c.loop-left-test.false)) c.loop-left.invariant.merged
