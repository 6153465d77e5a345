use Rattle.std.proofs.lemmas.Bool.{and_parts}
use Rattle.grid_model.specs.Stories.{is_small_node}
use Rattle.grid_model.specs.Fitness.{is_fit_prepare}
use Rattle.prepare_vote.proofs.Fit.{vote-encodes, due-of, again-pending}
use Rattle.prepare_vote.proofs.laws.law_prepare.Goals as goal

pub returns-clause-encodes : goal.returns-clause-encodes
returns-clause-encodes c s stage x q p h =
    let fit = and_parts (is_small_node s.journal s.next) (is_fit_prepare s.cluster s.node q) h in
    vote-encodes s.cluster s.node x q p fit.1

pub returns-clause-again : goal.returns-clause-again
returns-clause-again c = again-pending

pub returns-clause-of : goal.returns-clause-of
returns-clause-of c = due-of
