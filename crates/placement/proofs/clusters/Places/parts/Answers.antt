use Rattle.std.proofs.Common.{arith}
use Rattle.placement.proofs.Rising.{told_more}
use Rattle.placement.proofs.clusters.Places.parts.Goals as goal

pub loop-number-preserved : goal.loop-number-preserved
loop-number-preserved c = record {
  told = told_more _ _ _ _ _ (omega arith) c.loop-number.invariant.told c.in_ok-push_part.ensures;
  least = omega arith;
  most = omega arith;
}
