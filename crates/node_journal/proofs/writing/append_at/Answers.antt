use Rattle.std.proofs.Common.{subst, IsTrue, sym}
use Rattle.node_journal.specs.Torn.{Near}
use Rattle.node_journal.proofs.Torn.{opened_near}
use Rattle.node_journal.proofs.Spending.{spends_more}
use Rattle.node_journal.proofs.writing.append_at.Goals as goal

pub returns-in-Err-put_durably-clause-stopped : goal.returns-in-Err-put_durably-clause-stopped
returns-in-Err-put_durably-clause-stopped g c = λ t.
    let near = c.in-Err-put_durably.ensures.torn (subst IsTrue (sym c.in-Ok.ensures.spends.ok.tells) t) in
    opened_near (g.D.Disk.file c.args.disk.now) (g.D.Disk.file c.put_durably-2.new.disk) c.args.gate c.args.frame.now (c.requires.within t)
    (subst (λ f. Near f c.args.gate 1 (g.D.Disk.file c.put_durably-2.new.disk)) (c.in-Ok.ensures.ok t) near)

pub returns-in-Err-put_durably-clause-spends : goal.returns-in-Err-put_durably-clause-spends
returns-in-Err-put_durably-clause-spends g c = spends_more g.D.Disk c.args.disk.now c.put_durably.new.disk c.put_durably-2.new.disk 2 2 _ c.in-Ok.ensures.spends.ok c.in-Err-put_durably.ensures.spends
