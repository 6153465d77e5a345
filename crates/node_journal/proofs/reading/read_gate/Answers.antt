use Rattle.std.proofs.Common.{◌≤◌, drop, arith, rules}
use Rattle.node_journal.proofs.Gates.{gates_taken, faults_taken, piece_taken}
use Rattle.node_journal.proofs.reading.read_gate.Goals as goal

pub returns-in-Ok-clause-ok : goal.returns-in-Ok-clause-ok
returns-in-Ok-clause-ok g c =
    let seen = (g.D.Disk.file c.args.disk.now).seen in
    let inside : c.args.at ≤ c.args.len = omega (arith, c.requires.inside) in
    gates_taken c.gate_in.result c.read.new.buf (drop c.args.at seen) (λ t. piece_taken seen c.read.new.buf c.args.at c.args.len _ (c.in-Ok.ensures.bytes t) (c.requires.len t) inside (search rules)) c.gate_in.ensures.ok

pub returns-in-Ok-clause-bad : goal.returns-in-Ok-clause-bad
returns-in-Ok-clause-bad g c =
    let seen = (g.D.Disk.file c.args.disk.now).seen in
    let inside : c.args.at ≤ c.args.len = omega (arith, c.requires.inside) in
    faults_taken c.gate_in.result c.read.new.buf (drop c.args.at seen) _ (λ t. piece_taken seen c.read.new.buf c.args.at c.args.len _ (c.in-Ok.ensures.bytes t) (c.requires.len t) inside (search rules)) c.gate_in.ensures.bad
