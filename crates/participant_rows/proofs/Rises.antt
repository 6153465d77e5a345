-- Do the parts of a short list rise?
use Rattle.std.proofs.Common.{◌<◌, zero, suc, [], ◌∷◌, arith}
use Rattle.std.specs.List.Sorted.{IsStrictlyIncreasing}
use Rattle.score_base.specs.declared.ids.NodeId.{NodeId}

pub one-rises : (n : NodeId) → IsStrictlyIncreasing (n ∷ [])
one-rises n k lt = absurd (omega (arith, lt))

pub two-rise : (m n : NodeId) → m < n → IsStrictlyIncreasing (m ∷ (n ∷ []))
two-rise m n h zero lt = h
two-rise m n h (suc k) lt = absurd (omega (arith, lt))
