use Rattle.node_journal.proofs.Generations.{opening_torn}
use Rattle.node_journal.proofs.compacting.open_version.Goals as goal

pub returns-in-Err-clause-stopped : goal.returns-in-Err-clause-stopped
returns-in-Err-clause-stopped g c =
    λ t filling u. opening_torn (g.D.Disk.file c.args.other.now) (g.D.Disk.file c.put_durably.new.disk) filling u
    (c.in-Err.ensures.torn t)
