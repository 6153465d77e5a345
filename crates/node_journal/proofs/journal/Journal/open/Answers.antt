use Rattle.std.proofs.Common.{◌≡◌, List, IsTrue, length, sym, ap, subst, ◌∙◌, arith, rules}
use Rattle.score_base.specs.declared.records.Record.{Record}
use Rattle.score_disk.specs.Files.{File}
use Rattle.node_journal.specs.Log.{log, records_of}
use Rattle.node_journal.proofs.Appends.{log_own, records_are}
use Rattle.node_journal.proofs.Logs.{log_is}
use Rattle.node_journal.proofs.journal.Journal.open.Goals as goal

pub invariant_of-result : goal.invariant_of-result
invariant_of-result g c =
    let now : File = g.D.Disk.file c.load.new.disk in
    let rs : List Record = c.in-Ok.records.items in
    let told = λ (t : IsTrue (g.D.Disk.tells c.load.new.disk)). subst IsTrue c.load.ensures.tells t in
    let long : c.len.result ≡ length rs = search rules in
    record {
      settled = λ t. c.in-Ok.ensures.settled (told t);
      is_log = λ t. log_own now.seen rs c.in-Ok.gate (c.in-Ok.ensures.now (told t));
      counted = λ t.
          let same : length (records_of (log now.seen)) ≡ length rs = ap length (records_are now.seen rs (log_is now.seen rs c.in-Ok.gate (c.in-Ok.ensures.now (told t)))) in
          long ∙ sym same;
      few = omega (arith, long, c.in-Ok.ensures.count);
      small = c.in-Ok.ensures.small;
    }

pub returns-in-Ok-clause-now : goal.returns-in-Ok-clause-now
returns-in-Ok-clause-now g c = λ t. record {
  settled = c.in-Ok.ensures.settled t;
  is = log_is (g.D.Disk.file c.load.new.disk).seen c.in-Ok.records.items c.in-Ok.gate (c.in-Ok.ensures.now t);
}
