use Rattle.std.proofs.Common.{rules}
use Rattle.score_io.proofs.Streams.{lost_more}
use Rattle.score_io.proofs.whole.read_all.Goals as goal

pub returns-in-Err-clause-lost : goal.returns-in-Err-clause-lost
returns-in-Err-clause-lost g c = lost_more _ _ _ _ _ _ c.loop-bytes.invariant.gained c.in-Err.ensures.lost (search rules)
