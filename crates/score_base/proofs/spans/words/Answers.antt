use Rattle.score_base.proofs.Places.{stand_pieces, stand_slices, stand_within, stand_order}
use Rattle.score_base.proofs.spans.words.Goals as goal

pub returns-clause-slices : goal.returns-clause-slices
returns-clause-slices c = rw (c.in_ok-push.ensures.ok, c.in_ok-spans.ensures.pieces) (stand_slices c.args.line.now 0 _ (stand_pieces 32 c.args.line.now))

pub returns-clause-within : goal.returns-clause-within
returns-clause-within c = rw (c.in_ok-push.ensures.ok, c.in_ok-spans.ensures.pieces) (stand_within c.args.line.now 0 _ (stand_pieces 32 c.args.line.now))

pub returns-clause-order : goal.returns-clause-order
returns-clause-order c = rw (c.in_ok-push.ensures.ok, c.in_ok-spans.ensures.pieces) (stand_order c.args.line.now 0 _ (stand_pieces 32 c.args.line.now))
