use Rattle.node_journal.proofs.Generations.{filling_torn}
use Rattle.node_journal.proofs.compacting.fill.Goals as goal

pub returns-in-Err-clause-stopped : goal.returns-in-Err-clause-stopped
returns-in-Err-clause-stopped g c =
    λ t. filling_torn (g.D.Disk.file c.args.other.now) (g.D.Disk.file c.put_durably.new.disk) _ (c.requires.cleared t)
    (c.in-Err.ensures.torn t)
