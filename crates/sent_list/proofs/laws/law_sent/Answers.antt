use Rattle.grid_model.specs.Schedules.{next_number}
use Rattle.sent_list.proofs.SentActs.{sent-step, shows-outs}
use Rattle.sent_list.proofs.laws.law_sent.Goals as goal

pub returns-clause-step : goal.returns-clause-step
returns-clause-step c = sent-step

pub returns-clause-outs : goal.returns-clause-outs
returns-clause-outs c = λ x past n os shows e. shows-outs x past (next_number past) n os shows e
