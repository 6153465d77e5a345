use Rattle.std.proofs.Common.{ap, ◌∙◌}
use Rattle.pending_queue.specs.Proposals.{has}
use Rattle.pending_queue.proofs.Alike.{has_remove, has_none}
use Rattle.pending_queue.proofs.drop_proposal.Goals as goal

pub returns-in-Ok-clause-dropped : goal.returns-in-Ok-clause-dropped
returns-in-Ok-clause-dropped c q =
    let found = c.in-Ok.ensures.found in
    ap (λ ps. has ps q) c.remove.ensures.pairs
    ∙ has_remove c.args.order.now.pairs c.in-Ok.i c.args.proposal q c.in-Ok.ensures.rising found.0 found.1

pub returns-in_default-clause-dropped : goal.returns-in_default-clause-dropped
returns-in_default-clause-dropped c q =
    has_none c.args.order.now.pairs c.in_default.field-0 c.args.proposal q c.in_default.ensures.absent
