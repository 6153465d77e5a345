use Rattle.std.proofs.Common.{length, sym, ap, ◌∙◌, arith}
use Rattle.score_base.specs.Pieces.{pieces, places}
use Rattle.score_base.proofs.Places.{last_stays, last_goes, stand_lines, stand_slices, stand_within, stand_order}
use Rattle.score_base.proofs.spans.lines.Goals as goal
use Rattle.score_base.proofs.spans.lines.Goals.{then-start-end+in_ok-push, else-start-end}

pub returns-clause-value : goal.returns-clause-value
returns-clause-value c = elim c.if-start-end.branch [
  | then-start-end+in_ok-push w ↦ ap (λ v. v.items) w.spans-is ∙ w.in_ok-push.ensures.ok ∙ c.in_ok-spans.ensures.pieces ∙ ap (places 0) (sym (last_stays 0 c.in_ok-spans.start (length c.args.text.now) c.in_ok-spans.spans.items (pieces 10 c.args.text.now) (omega arith) c.in_ok-spans.ensures.pieces))
  | else-start-end w ↦ ap (λ v. v.items) w.spans-is ∙ last_goes 0 c.in_ok-spans.start (length c.args.text.now) c.in_ok-spans.spans.items (pieces 10 c.args.text.now) (omega arith) c.in_ok-spans.ensures.pieces
]

pub returns-clause-slices : goal.returns-clause-slices
returns-clause-slices c = rw (returns-clause-value c) (stand_slices c.args.text.now 0 _ (stand_lines c.args.text.now))

pub returns-clause-within : goal.returns-clause-within
returns-clause-within c = rw (returns-clause-value c) (stand_within c.args.text.now 0 _ (stand_lines c.args.text.now))

pub returns-clause-order : goal.returns-clause-order
returns-clause-order c = rw (returns-clause-value c) (stand_order c.args.text.now 0 _ (stand_lines c.args.text.now))
