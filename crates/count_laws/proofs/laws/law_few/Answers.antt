use Rattle.count_laws.proofs.Events.{outs-few}
use Rattle.count_laws.proofs.Runs.{run-few}
use Rattle.count_laws.proofs.laws.law_few.Goals as goal

pub returns-clause-run : goal.returns-clause-run
returns-clause-run c = run-few

pub returns-clause-outs : goal.returns-clause-outs
returns-clause-outs c = outs-few
