use Rattle.node_journal.proofs.Logs.{log_is, log_short}
use Rattle.node_journal.proofs.laws.law_log.Goals as goal

pub returns-clause-forms : goal.returns-clause-forms
returns-clause-forms c = log_is

pub returns-clause-short : goal.returns-clause-short
returns-clause-short c = log_short
