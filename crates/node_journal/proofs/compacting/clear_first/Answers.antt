use Rattle.std.proofs.Common.{◌≡◌, ◌≤◌, length, take, IsTrue, sym, subst, ap, arith, get_or, length-take}
use Rattle.score_disk.specs.Files.{File}
use Rattle.node_journal.specs.Log.{generation}
use Rattle.node_journal.proofs.Generations.{head_is, cut_torn, first_torn}
use Rattle.node_journal.proofs.Spending.{spends_more}
use Rattle.node_journal.proofs.compacting.clear_first.Goals as goal

pub returns-in-Err-clause-stopped : goal.returns-in-Err-clause-stopped
returns-in-Err-clause-stopped g c = λ t.
    let f : File = g.D.Disk.file c.args.other.now in
    let one : get_or f.seen 0 0 ≡ 1 = head_is f.seen 1 (c.requires.version t) in
    cut_torn f (g.D.Disk.file c.cut_durably.new.disk) (λ e. omega (
      arith,
      one,
      e,
    )) (c.in-Err.ensures.torn t) (generation f.seen)

pub returns-in-Err-put_durably-clause-stopped : goal.returns-in-Err-put_durably-clause-stopped
returns-in-Err-put_durably-clause-stopped g c = λ t.
    let f : File = g.D.Disk.file c.args.other.now in
    let mid : File = g.D.Disk.file c.cut_durably.new.disk in
    let cut : mid.seen ≡ take 1 f.seen = ap (λ (x : File). x.seen) (c.in-Ok.ensures.ok t) in
    let short : length mid.seen ≤ 1 = omega (arith, ap length cut, length-take 1 f.seen) in
    first_torn mid (g.D.Disk.file c.put_durably.new.disk) short
    (c.in-Err-put_durably.ensures.torn (subst IsTrue (sym c.in-Ok.ensures.spends.ok.tells) t)) (generation f.seen)

pub returns-in-Err-put_durably-clause-spends : goal.returns-in-Err-put_durably-clause-spends
returns-in-Err-put_durably-clause-spends g c =
    spends_more g.D.Disk c.args.other.now c.cut_durably.new.disk c.put_durably.new.disk 2 2 _ c.in-Ok.ensures.spends.ok
    c.in-Err-put_durably.ensures.spends
