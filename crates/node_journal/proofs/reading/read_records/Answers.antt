use Rattle.std.proofs.Common.{◌+◌, ◌<◌, IsTrue, length, sym, subst, rules, arith, drop, take}
use Rattle.std.specs.List.{All}
use Rattle.std.proofs.lemmas.Grind.{common_steps}
use Rattle.std.proofs.lemmas.List.Elements.{All-push}
use Rattle.journal_records.specs.Records.{IsRecord}
use Rattle.node_journal.specs.declared.reading.Gate.TheVariants.{Open}
use Rattle.node_journal.specs.Gates.{IsGate}
use Rattle.node_journal.specs.Log.{Spells}
use Rattle.node_journal.proofs.Gates.{bad_at, next_at}
use Rattle.node_journal.proofs.reading.read_records.Goals as goal

pub gates-preserved : goal.gates-preserved
gates-preserved g c = record {
  low = search rules;
  inside = search rules;
  count = grind (arith, common_steps);
  fit =
      let one = rw c.in-Ok-Open.field-0-is at c.in-Ok-Open.ensures.fit in
      subst (All IsRecord) (sym c.in-Ok.ensures.ok) (All-push IsRecord c.gates.records.items c.in-Ok-Open.record c.gates.invariant.fit one);
  spelled = λ t.
      let seen = (g.D.Disk.file c.args.disk.now).seen in
      let told : IsTrue (g.D.Disk.tells c.gates.disk) = subst IsTrue (sym c.gates.invariant.tells) t in
      let high : c.gates.at < length seen = omega (arith, c.gates.invariant.inside, c.requires.len t) in
      let found = rw c.in-Ok-Open.field-0-is at c.in-Ok-Open.ensures.ok in
      let gate : IsGate (drop c.gates.at seen) (Open c.in-Ok-Open.record c.in-Ok-Open.size) = subst (λ f. IsGate (drop c.gates.at f.seen) (Open c.in-Ok-Open.record c.in-Ok-Open.size)) c.gates.invariant.file (found told) in
      subst (λ rs. Spells (drop c.args.first (take (c.gates.at + (1 + c.in-Ok-Open.size)) seen)) rs) (sym c.in-Ok.ensures.ok)
      (next_at seen c.gates.records.items c.in-Ok-Open.record c.args.first c.gates.at c.in-Ok-Open.size c.gates.invariant.low high (c.gates.invariant.spelled t) gate);
  file = search rules;
  tells = search rules;
  left = search rules;
  faults = search rules;
  own = search rules;
}

pub returns-in-Err-clause-bad : goal.returns-in-Err-clause-bad
returns-in-Err-clause-bad g c =
    bad_at c.in-Err.end (g.D.Disk.file c.args.disk.now).seen c.gates.records.items c.args.first c.gates.at (λ t. omega (arith, c.requires.long, c.requires.len t)) c.requires.version c.gates.invariant.low (λ t. omega (arith, c.gates.invariant.inside, c.requires.len t)) c.gates.invariant.spelled
    (rw (c.gates.invariant.file, c.gates.invariant.tells) at c.in-Err.ensures.bad)
