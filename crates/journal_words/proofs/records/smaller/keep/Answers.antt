use Rattle.std.proofs.Common.{◌∙◌, ◌++◌, sym, ap}
use Rattle.std.proofs.lemmas.Result.{on_ok_weaker}
use Rattle.journal_words.specs.Small.{is_set, small, without_needless}
use Rattle.journal_words.proofs.Needless.{needless-goes, other-stays}
use Rattle.journal_words.proofs.records.smaller.keep.Goals as goal

pub returns-then-needless : goal.returns-then-needless
returns-then-needless c = λ r.
    let old = c.args.later.now in
    let new = c.note.new.self in
    needless-goes old.ceiling new.ceiling (is_set old.closed.items) (is_set new.closed.items) c.args.rec
    c.in_ok-note.ensures.ceiling c.in_ok-note.ensures.closed r c.args.kept.now.items
    (sym c.is_needless-needless.ensures ∙ c.if-needless.true)

pub returns : goal.returns
returns c =
    let old = c.args.later.now in
    let new = c.note.new.self in
    on_ok_weaker c.push.result (λ e r.
    ap (λ s. s ++ without_needless new.ceiling (is_set new.closed.items) (small r)) e
    ∙ other-stays old.ceiling new.ceiling (is_set old.closed.items) (is_set new.closed.items) c.args.rec
    c.in_ok-note.ensures.ceiling c.in_ok-note.ensures.closed r c.args.kept.now.items
    (sym c.is_needless-needless.ensures ∙ c.if-needless.false)) c.push.ensures.ok
