use Rattle.std.proofs.Common.{sym, ap, ◌∙◌}
use Rattle.std.specs.FinSet as set
use Rattle.stable_queue.specs.Commits.{Queue, commits_of}
use Rattle.stable_queue.proofs.Members.{insert_commit, found_commit}
use Rattle.stable_queue.proofs.Stable.add.Goals as goal

pub returns-in-Err-clause-added : goal.returns-in-Err-clause-added
returns-in-Err-clause-added c =
    ap commits_of c.insert.ensures.pairs
    ∙ insert_commit c.self.inside.commits.pairs c.in-Err.i (c.args.f, c.args.t) c.in-Err.ensures.absent
    ∙ ap (λ (q : Queue). set.insert q.commits (c.args.f, c.args.t)) c.self.view_is

pub returns-in_default-clause-added : goal.returns-in_default-clause-added
returns-in_default-clause-added c =
    let found = c.in_default.ensures.found in
    let there = found_commit c.self.inside.commits.pairs c.in_default.field-0 (c.args.f, c.args.t) c.in_default.ensures.rising found.0 found.1 in
    absurd (c.requires.absent (sym (ap (λ (q : Queue). set.contains q.commits (c.args.f, c.args.t)) c.self.view_is) ∙ there))
