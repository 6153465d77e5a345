use Rattle.std.proofs.Common.{arith}
use Rattle.score_fields.specs.Fields.{data_at}
use Rattle.journal_records.proofs.Taking.{not_whole_front, not_whole_more}
use Rattle.journal_records.proofs.decoding.whole.Goals as goal

pub returns-in_default-clause-none : goal.returns-in_default-clause-none
returns-in_default-clause-none g c = not_whole_front c.args.layout.now.tag c.args.layout.now.fields c.args.body.now c.in_default.ensures.none

pub returns-then-taken-body-clause-none : goal.returns-then-taken-body-clause-none
returns-then-taken-body-clause-none g c = not_whole_more c.args.layout.now.tag c.args.layout.now.fields c.args.body.now (data_at 1 c.args.layout.now.fields) c.in-Some.taken.values c.in-Some.taken.used c.in-Some.ensures.again (λ e. omega (arith, e, c.if-taken-body.true))
