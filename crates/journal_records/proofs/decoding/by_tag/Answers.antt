use Rattle.std.proofs.Common.{arith}
use Rattle.journal_records.proofs.Taking.{no_body, no_tag}
use Rattle.journal_records.proofs.decoding.by_tag.Goals as goal

pub returns-in_default-clause-exact : goal.returns-in_default-clause-exact
returns-in_default-clause-exact c = no_body c.args.body.now c.in_default.len_below

pub returns-in_default-tag-clause-exact : goal.returns-in_default-tag-clause-exact
returns-in_default-tag-clause-exact c = no_tag c.args.body.now (λ e. omega (arith, e)) (λ e. omega (arith, e)) (λ e. omega (arith, e)) (λ e. omega (arith, e)) (λ e. omega (arith, e))
