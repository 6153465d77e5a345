use Rattle.grid_store.proofs.ClockSteps.{clock-commit}
use Rattle.grid_store.proofs.clocks.learn_end.Goals as goal

pub returns-in-Commit-clause-keeps : goal.returns-in-Commit-clause-keeps
returns-in-Commit-clause-keeps c r t k = rw c.in-Commit.is (clock-commit _ _ r t c.in-Commit.f k c.learn.ensures.floor c.learn.ensures.next)
