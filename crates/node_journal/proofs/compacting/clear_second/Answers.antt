use Rattle.std.proofs.Common.{◌≡◌, IsTrue, sym, subst, ap, arith, get_or}
use Rattle.score_disk.specs.Files.{File}
use Rattle.node_journal.specs.Log.{generation}
use Rattle.node_journal.proofs.Generations.{head_is, cut_torn, version_torn}
use Rattle.node_journal.proofs.Spending.{spends_more}
use Rattle.node_journal.proofs.compacting.clear_second.Goals as goal

pub returns-in-Err-clause-stopped : goal.returns-in-Err-clause-stopped
returns-in-Err-clause-stopped g c = λ t.
    let f : File = g.D.Disk.file c.args.other.now in
    version_torn f (g.D.Disk.file c.put_durably-overwritten.new.disk) (head_is f.seen 2 (c.requires.version t))
    (c.in-Err.ensures.torn t)

pub returns-in-Err-cut_durably-clause-stopped : goal.returns-in-Err-cut_durably-clause-stopped
returns-in-Err-cut_durably-clause-stopped g c = λ t.
    let f : File = g.D.Disk.file c.args.other.now in
    let mid : File = g.D.Disk.file c.put_durably-overwritten.new.disk in
    let zero : get_or mid.seen 0 0 ≡ 0 = ap (λ (x : File). get_or x.seen 0 0) (c.in-Ok.ensures.ok t) in
    cut_torn mid (g.D.Disk.file c.cut_durably.new.disk) (λ e. omega (
      arith,
      zero,
      e,
    )) (c.in-Err-cut_durably.ensures.torn (subst IsTrue (sym c.in-Ok.ensures.spends.ok.tells) t))
    (generation f.seen)

pub returns-in-Err-cut_durably-clause-spends : goal.returns-in-Err-cut_durably-clause-spends
returns-in-Err-cut_durably-clause-spends g c =
    spends_more g.D.Disk c.args.other.now c.put_durably-overwritten.new.disk c.cut_durably.new.disk 2 2 _
    c.in-Ok.ensures.spends.ok c.in-Err-cut_durably.ensures.spends
