use Rattle.std.proofs.Common.{◌≡◌, max, drop}
use Rattle.grid_model.specs.Rows.{greatest_vote}
use Rattle.presumed_abort.proofs.counts.greatest_vote.Given as goal

abbrev pub invariant-loop-vote : goal.invariant-loop-vote
invariant-loop-vote l = max l.greatest (greatest_vote (drop l.vote-index l.votes)) ≡ greatest_vote l.votes
