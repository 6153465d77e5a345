use Rattle.std.proofs.Common.{◌+◌, ◌-◌, ◌*◌, ◌^◌, ◌≤◌, length}
use Rattle.score_base.specs.Tables.{Narrows}
use Rattle.score_base.proofs.ordered.Ordered.find.Given as goal

abbrev pub invariant-loop-low : goal.invariant-loop-low
invariant-loop-low g l = record {
  narrows : Narrows g.K.Ord.cmp l.self.pairs l.key l.low l.high;
  later : l.fn.steps ≤ l.steps;
  halved : 2 ^ (l.steps - l.fn.steps) * (l.high - l.low) ≤ length l.self.pairs;
  cost : 2 ^ (l.steps - l.fn.steps) ≤ 2 * length l.self.pairs + 1;
}

abbrev pub decreases-loop-low : goal.decreases-loop-low
decreases-loop-low g l = l.high - l.low
