use Rattle.std.proofs.Common.{arith, inr}
use Rattle.std.proofs.lemmas.Grind.{common_steps}
use Rattle.journal_records.specs.Records.{record_bytes}
use Rattle.journal_records.proofs.Spelled.{on_err, ended_short}
use Rattle.journal_records.proofs.encoding.put_ended.Goals as goal

pub returns-clause-full : goal.returns-clause-full
unfolding record_bytes
returns-clause-full c = on_err c.put.result _ _ c.put.ensures.full (λ lt. inr (grind (arith, common_steps, lt, ended_short c.args.t c.args.outcome)))
