use Rattle.std.proofs.Common.{arith}
use Rattle.journal_records.proofs.Taking.{found_from, none_from}
use Rattle.journal_records.proofs.decoding.decode.Goals as goal

pub returns-clause-found : goal.returns-clause-found
returns-clause-found c = found_from c.args.body.now c.by_tag.result (λ i. omega (arith, c.type_inv.body i)) c.by_tag.ensures.exact

pub returns-clause-none : goal.returns-clause-none
returns-clause-none c = none_from c.args.body.now c.by_tag.result c.by_tag.ensures.exact
