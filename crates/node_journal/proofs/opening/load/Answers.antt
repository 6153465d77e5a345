use Rattle.std.proofs.Common.{◌≡◌, ◌≤◌, ◌∙◌, ◌∷◌, IsTrue, Ok, sym, subst, ap, arith, length, drop}
use Rattle.score_disk.specs.Files.{File}
use Rattle.node_journal.specs.Log.{IsLog}
use Rattle.std.proofs.lemmas.Result.{IfOk-weaker}
use Rattle.node_journal.proofs.Openings.{at_errors}
use Rattle.node_journal.proofs.Logs.{log_is, log_short}
use Rattle.node_journal.proofs.Openings.{anew_log}
use Rattle.node_journal.proofs.opening.load.Goals as goal

pub returns-then-len-gt2-clause-log : goal.returns-then-len-gt2-clause-log
returns-then-len-gt2-clause-log g c =
    let seen = (g.D.Disk.file c.args.disk.now).seen in
    IfOk-weaker c.read_log.result _ _ (λ x h t. log_is seen x.0.items x.1 (h t)) (rw (c.len.ensures.file, c.len.ensures.tells) at c.read_log.ensures.ok)

pub returns-then-len-gt2-clause-short : goal.returns-then-len-gt2-clause-short
returns-then-len-gt2-clause-short g c = at_errors c.read_log.result (λ t low. absurd (omega (arith, low, c.in-Ok.ensures.len t, c.if-len-gt2.true)))

pub returns-in-Ok-make_anew-clause-log : goal.returns-in-Ok-make_anew-clause-log
returns-in-Ok-make_anew-clause-log g c = λ t.
    let seen = (g.D.Disk.file c.args.disk.now).seen in
    let short : length seen ≤ 2 = omega (arith, c.in-Ok.ensures.len t, c.if-len-gt2.false) in
    log_short seen short ∙ ap Ok (sym c.new.ensures.items)

pub returns-in-Ok-make_anew-clause-now : goal.returns-in-Ok-make_anew-clause-now
returns-in-Ok-make_anew-clause-now g c = λ t.
    let seen = (g.D.Disk.file c.args.disk.now).seen in
    let now = (g.D.Disk.file c.make_anew.new.disk).seen in
    let short : length seen ≤ 2 = omega (arith, c.in-Ok.ensures.len t, c.if-len-gt2.false) in
    let told : IsTrue (g.D.Disk.tells c.len.new.self) = subst IsTrue (sym c.len.ensures.tells) t in
    let made : now ≡ 1 ∷ 0 ∷ drop 2 seen = ap (λ (f : File). f.seen) (c.in-Ok-make_anew.ensures.ok told) ∙ ap (λ (f : File). 1 ∷ 0 ∷ drop 2 f.seen) c.len.ensures.file in
    subst (λ rs. IsLog now rs 1) (sym c.new.ensures.items) (anew_log seen now short made)
