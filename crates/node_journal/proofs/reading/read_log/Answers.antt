use Rattle.std.proofs.Common.{◌≤◌, ◌<◌, length, IsTrue, sym, subst, inl, inr, arith}
use Rattle.node_journal.specs.Log.{HasGateAt}
use Rattle.node_journal.proofs.Openings.{versioned_first, versioned_second, unversioned}
use Rattle.node_journal.proofs.reading.read_log.Goals.{else-version-eq2-via-then-version-eq2+else-len-ge10, else-version-eq2-via-else-version-eq2}
use Rattle.node_journal.proofs.reading.read_log.Goals as goal

pub read_records-requires-clause-version : goal.read_records-requires-clause-version
read_records-requires-clause-version g c = λ t.
    let seen = (g.D.Disk.file c.args.disk.now).seen in
    let told : IsTrue (g.D.Disk.tells c.args.disk.now) = subst IsTrue c.read.ensures.tells t in
    let long : 2 < length seen = omega (arith, c.requires.long, c.requires.len told) in
    subst (λ f. HasGateAt f.seen 1) (sym c.read.ensures.file) (versioned_first seen c.read.new.buf (c.in-Ok.ensures.bytes told) long c.if-version-eq1.true)

pub read_records-requires-then-len-ge10-clause-version : goal.read_records-requires-then-len-ge10-clause-version
read_records-requires-then-len-ge10-clause-version g c = λ t.
    let seen = (g.D.Disk.file c.args.disk.now).seen in
    let told : IsTrue (g.D.Disk.tells c.args.disk.now) = subst IsTrue c.read.ensures.tells t in
    let long : 10 ≤ length seen = omega (arith, c.if-len-ge10.true, c.requires.len told) in
    subst (λ f. HasGateAt f.seen 9) (sym c.read.ensures.file) (versioned_second seen c.read.new.buf (c.in-Ok.ensures.bytes told) long c.if-version-eq2.true)

pub returns-clause-bad : goal.returns-clause-bad
returns-clause-bad g c = λ t.
    let seen = (g.D.Disk.file c.args.disk.now).seen in
    let long : 2 < length seen = omega (arith, c.requires.long, c.requires.len t) in
    unversioned seen c.read.new.buf (c.in-Ok.ensures.bytes t) long c.if-version-eq1.false (elim c.else-version-eq2.branch [
      | else-version-eq2-via-then-version-eq2+else-len-ge10 w ↦ inr (omega (arith, w.if-len-ge10.false, c.requires.len t))
      | else-version-eq2-via-else-version-eq2 w ↦ inl w.if-version-eq2.false
    ])
