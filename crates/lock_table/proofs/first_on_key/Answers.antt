use Rattle.lock_table.proofs.Runs.{start_at_place}
use Rattle.lock_table.proofs.first_on_key.Goals as goal

pub returns-in-Ok-clause-start : goal.returns-in-Ok-clause-start
returns-in-Ok-clause-start c =
    start_at_place c.args.locks.now.pairs c.args.key.now c.in-Ok.i c.requires c.in-Ok.ensures.rising c.in-Ok.ensures.found.0 c.in-Ok.ensures.found.1
