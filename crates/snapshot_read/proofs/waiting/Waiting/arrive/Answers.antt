use Rattle.std.proofs.Common.{◌≡◌, ◌<◌, ◌≤◌, ◌^◌, ◌∙◌, ap, arith}
use Rattle.journal_words.specs.Journals.{commit_id}
use Rattle.grid_model.specs.Rows.{dated}
use Rattle.snapshot_read.specs.Held.{HeldReads}
use Rattle.snapshot_read.specs.Reads.{read_at}
use Rattle.snapshot_read.proofs.Dates.{small-dated}
use Rattle.snapshot_read.proofs.Arrivals.{Needed, need-answer, need-reserved}
use Rattle.snapshot_read.proofs.waiting.Waiting.arrive.Goals as goal

pub needs-requires-clause-sid : goal.needs-requires-clause-sid
needs-requires-clause-sid c =
    let s = c.args.store.now in
    let q = c.args.req.now in
    let small : dated q.date (commit_id s.journal) < 2 ^ 22 =
    small-dated s.cluster s.node s.journal s.next q c.requires.node c.requires.fit in
    rw c.read_at-read.ensures small

pub returns-in-Some-clause-answer : goal.returns-in-Some-clause-answer
returns-in-Some-clause-answer c =
    let s = c.args.store.now in
    let h = read_at s c.args.from c.args.req.now in
    let needed : Needed s h c.read_at-read.result c.made.result c.in-Some.c = record {
      made = c.made.ensures;
      asked = c.read_at-read.ensures;
      above = c.in-Some.ensures.none.1;
      is = c.in-Some.ensures.ceiling;
    } in
    need-answer s h c.read_at-read.result c.made.result c.in-Some.c needed

pub returns-in-Some-clause-leaves : goal.returns-in-Some-clause-leaves
returns-in-Some-clause-leaves c =
    let s = c.args.store.now in
    let h = read_at s c.args.from c.args.req.now in
    let needed : Needed s h c.read_at-read.result c.made.result c.in-Some.c = record {
      made = c.made.ensures;
      asked = c.read_at-read.ensures;
      above = c.in-Some.ensures.none.1;
      is = c.in-Some.ensures.ceiling;
    } in
    need-reserved s c.reserve-in-Some.new.self c.args.self.now _ h c.read_at-read.result c.made.result c.in-Some.c
    needed
    c.reserve-in-Some.ensures.same c.in_ok-reserve-2.ensures.room
    (omega (arith, c.in_ok-reserve.ensures.ok, c.reserve.ensures.len))
    (c.reserve.ensures.items ∙ ap (λ (w : HeldReads). w.reads) c.self.view_is)
