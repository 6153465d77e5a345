use Rattle.node_journal.proofs.Fillings.{filling_generation, filling_log}
use Rattle.node_journal.proofs.Pairs.{torn_pair, early_pair}
use Rattle.node_journal.proofs.laws.law_compaction.Goals as goal

pub returns-clause-generation : goal.returns-clause-generation
returns-clause-generation c = filling_generation

pub returns-clause-log : goal.returns-clause-log
returns-clause-log c = filling_log

pub returns-clause-torn : goal.returns-clause-torn
returns-clause-torn c = torn_pair

pub returns-clause-early : goal.returns-clause-early
returns-clause-early c = early_pair
