use Rattle.node_journal.proofs.Spending.{spends_more}
use Rattle.node_journal.proofs.compacting.write_cleared.Goals as goal

pub returns-in-Err-open_version-clause-spends : goal.returns-in-Err-open_version-clause-spends
returns-in-Err-open_version-clause-spends g c =
    spends_more g.D.Disk c.args.other.now c.fill.new.other c.open_version.new.other 2 2 _ c.in-Ok.ensures.spends.ok
    c.in-Err-open_version.ensures.spends
