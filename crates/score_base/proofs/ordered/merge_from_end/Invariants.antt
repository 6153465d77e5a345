use Rattle.std.proofs.Common.{◌≡◌, ◌+◌, ◌≤◌, ◌++◌, length, take, drop}
use Rattle.score_base.specs.Tables.{IsRising, merged}
use Rattle.score_base.proofs.ordered.merge_from_end.Given as goal

abbrev pub invariant-loop-left : goal.invariant-loop-left
invariant-loop-left g l = record {
  len : length l.items ≡ length l.initial.items;
  order : l.low + l.left ≤ l.high;
  within : l.high ≤ length l.items;
  front : l.low ≤ l.count;
  few : l.left ≤ length l.more;
  rising : IsRising g.K.Ord.cmp (take l.low l.items);
  merged : merged g.K.Ord.cmp (take l.low l.items) (take l.left l.more) ++ drop l.high l.items
      ≡ merged g.K.Ord.cmp (take l.count l.initial.items) l.more;
}

abbrev pub decreases-loop-left : goal.decreases-loop-left
decreases-loop-left g l = l.low + l.left
