use Rattle.std.proofs.Common.{◌≤◌, ◌<◌, ◌∙◌, length, sym, arith}
use Rattle.node_journal.proofs.Versions.{generation_short, generation_read}
use Rattle.node_journal.proofs.pair_opening.generation_of.Goals as goal

pub returns-then-len-lt10-clause-generation : goal.returns-then-len-lt10-clause-generation
returns-then-len-lt10-clause-generation g c = λ t.
    let seen = (g.D.Disk.file c.args.disk.now).seen in
    let short : length seen < 10 = omega (arith, c.in-Ok.ensures.len t, c.if-len-lt10.true) in
    sym (generation_short seen short)

pub returns-in-Ok-read-clause-generation : goal.returns-in-Ok-read-clause-generation
returns-in-Ok-read-clause-generation g c = λ t.
    let seen = (g.D.Disk.file c.args.disk.now).seen in
    let long : 10 ≤ length seen = omega (arith, c.in-Ok.ensures.len t, c.if-len-lt10.false) in
    let bytes = rw (c.len.ensures.file, c.len.ensures.tells) at c.in-Ok-read.ensures.bytes in
    c.generation_in.ensures ∙ generation_read seen c.read.new.buf long (bytes t)
