use Rattle.std.proofs.Common.{◌≡◌, ◌+◌, ◌∷◌, [], ◌++◌, List, IsTrue, length, ap, subst, ◌∙◌, arith, rules, length-append}
use Rattle.score_base.specs.declared.records.Record.{Record}
use Rattle.score_disk.specs.Files.{File}
use Rattle.journal_records.specs.Records.{record_bytes}
use Rattle.node_journal.specs.Log.{framed, log, records_of, IsLog}
use Rattle.node_journal.proofs.Appends.{append_done, append_torn, append_early, append_settled, append_version, torn_version, log_read, log_own, records_are, length-frame}
use Rattle.node_journal.proofs.Logs.{log_is}
use Rattle.node_journal.proofs.journal.Journal.append.Goals as goal

pub append_at-requires-clause-room : goal.append_at-requires-clause-room
append_at-requires-clause-room g c =
    let frame : c.as_slice.result.now ≡ framed (record_bytes c.args.rec) ++ 0 ∷ [] = c.as_slice.ensures.value ∙ c.put_frame.ensures.frame in
    omega (arith, ap length frame ∙ length-frame (record_bytes c.args.rec), c.put_frame.ensures.short, c.requires.room.on_disk)

pub invariant_of-result : goal.invariant_of-result
invariant_of-result g c =
    let old : File = g.D.Disk.file c.args.self.disk in
    let now : File = g.D.Disk.file c.append_at.new.disk in
    let rs : List Record = records_of (log old.seen) in
    let frame : c.as_slice.result.now ≡ framed (record_bytes c.args.rec) ++ 0 ∷ [] = c.as_slice.ensures.value ∙ c.put_frame.ensures.frame in
    let long : c.len.result ≡ length (record_bytes c.args.rec) = search rules in
    let told = λ (t : IsTrue (g.D.Disk.tells c.append_at.new.disk)). subst IsTrue c.in-Ok.ensures.spends.ok.tells t in
    let done = λ (t : IsTrue (g.D.Disk.tells c.append_at.new.disk)). append_done old now c.as_slice.result.now rs c.args.rec c.args.self.gate c.len.result c.put_frame.ensures.is frame long (c.in-Ok.ensures.ok (told t)) (c.args.self.is_log (told t)) in
    record {
      settled = λ t. append_settled old now c.as_slice.result.now c.args.self.gate (c.in-Ok.ensures.ok (told t));
      is_log = λ t. log_own now.seen (rs ++ c.args.rec ∷ []) (c.args.self.gate + (c.len.result + 3)) (done t);
      counted = λ t.
          let count : c.args.self.count ≡ length rs = c.args.self.counted (told t) in
          let more : length (records_of (log now.seen)) ≡ length (rs ++ c.args.rec ∷ []) = ap length (records_are now.seen (rs ++ c.args.rec ∷ []) (log_is now.seen (rs ++ c.args.rec ∷ []) (c.args.self.gate + (c.len.result + 3)) (done t))) in
          omega (arith, count, more, length-append rs (c.args.rec ∷ []));
      few = omega (arith, c.args.self.few);
      small = omega (arith, long, c.put_frame.ensures.short, c.requires.room.place);
    }

pub returns-in-Ok-clause-appended : goal.returns-in-Ok-clause-appended
returns-in-Ok-clause-appended g c = λ t records e.
    let old : File = g.D.Disk.file c.args.self.disk in
    let now : File = g.D.Disk.file c.append_at.new.disk in
    let frame : c.as_slice.result.now ≡ framed (record_bytes c.args.rec) ++ 0 ∷ [] = c.as_slice.ensures.value ∙ c.put_frame.ensures.frame in
    let long : c.len.result ≡ length (record_bytes c.args.rec) = search rules in
    let is : IsLog old.seen records c.args.self.gate = log_read old.seen records c.args.self.gate e (c.args.self.is_log t) in
    let done = append_done old now c.as_slice.result.now records c.args.rec c.args.self.gate c.len.result c.put_frame.ensures.is frame long (c.in-Ok.ensures.ok t) is in
    record {
      settled = append_settled old now c.as_slice.result.now c.args.self.gate (c.in-Ok.ensures.ok t);
      is = log_is now.seen (records ++ c.args.rec ∷ []) (c.args.self.gate + (c.len.result + 3)) done;
    }

pub returns-in-Err-clause-stopped : goal.returns-in-Err-clause-stopped
returns-in-Err-clause-stopped g c = λ t records e.
    let old : File = g.D.Disk.file c.args.self.disk in
    let frame : c.as_slice.result.now ≡ framed (record_bytes c.args.rec) ++ 0 ∷ [] = c.as_slice.ensures.value ∙ c.put_frame.ensures.frame in
    append_torn old (g.D.Disk.file c.append_at.new.disk) c.as_slice.result.now records c.args.rec c.args.self.gate c.put_frame.ensures.is frame (log_read old.seen records c.args.self.gate e (c.args.self.is_log t)) (c.in-Err.ensures.stopped t)

pub returns-in-Err-clause-early : goal.returns-in-Err-clause-early
returns-in-Err-clause-early g c = λ t k left low records e.
    let old : File = g.D.Disk.file c.args.self.disk in
    append_early old (g.D.Disk.file c.append_at.new.disk) records c.args.self.gate (log_read old.seen records c.args.self.gate e (c.args.self.is_log t)) (c.in-Err.ensures.early t k left low)

pub returns-in-Ok-clause-version : goal.returns-in-Ok-clause-version
returns-in-Ok-clause-version g c = λ t.
    let old : File = g.D.Disk.file c.args.self.disk in
    append_version old (g.D.Disk.file c.append_at.new.disk) c.as_slice.result.now (records_of (log old.seen)) c.args.self.gate (c.in-Ok.ensures.ok t) (c.args.self.is_log t)

pub returns-in-Err-clause-version_stopped : goal.returns-in-Err-clause-version_stopped
returns-in-Err-clause-version_stopped g c = λ t.
    let old : File = g.D.Disk.file c.args.self.disk in
    torn_version old (g.D.Disk.file c.append_at.new.disk) c.as_slice.result.now (records_of (log old.seen)) c.args.self.gate (c.args.self.is_log t) (c.in-Err.ensures.stopped t)
