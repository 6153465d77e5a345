use Rattle.std.proofs.Common.{arith}
use Rattle.score_base.proofs.Places.{walk_ends}
use Rattle.score_base.proofs.spans.ended_pieces.Goals as goal

pub returns-clause-pieces : goal.returns-clause-pieces
returns-clause-pieces c = walk_ends _ _ c.loop-at.at _ _ (omega arith) c.loop-at.invariant.found
