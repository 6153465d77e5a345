use Rattle.std.proofs.Common.{ap}
use Rattle.stable_queue.specs.Commits.{commits_of}
use Rattle.stable_queue.proofs.Stable.new.Goals as goal

pub returns : goal.returns
returns c = ap commits_of c.new.ensures.pairs
