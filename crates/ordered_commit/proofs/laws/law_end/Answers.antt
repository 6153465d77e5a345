use Rattle.ordered_commit.proofs.Homes.{ack-repeat, due-of}
use Rattle.ordered_commit.proofs.laws.law_end.Goals as goal

pub returns-clause-ack : goal.returns-clause-ack
returns-clause-ack c = ack-repeat

pub returns-clause-of : goal.returns-clause-of
returns-clause-of c = due-of
