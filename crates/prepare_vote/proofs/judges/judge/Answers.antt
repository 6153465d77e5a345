use Rattle.std.proofs.Common.{◌≡◌, None, arith}
use Rattle.std.proofs.lemmas.Grind.{common_steps}
use Rattle.journal_words.specs.Journals.{ended, pending}
use Rattle.prepare_vote.proofs.Fit.{not-prepared}
use Rattle.prepare_vote.proofs.judges.judge.Goals as goal

pub yes-requires-clause-new : goal.yes-requires-clause-new
yes-requires-clause-new c =
    let s = c.args.store.now in
    let t = c.args.prepare.now.t in
    let e : ended t s.journal ≡ None =
    grind (arith, common_steps, c.ended.ensures, c.is_some.ensures, c.if-is_some.false) in
    let p : pending t s.journal ≡ None =
    grind (arith, common_steps, c.pending.ensures, c.in_default.is, c.in_default.not-Some) in
    not-prepared t s.journal e p
