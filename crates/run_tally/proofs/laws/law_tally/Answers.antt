use Rattle.run_tally.proofs.TallyTexts.{tally-text, tally-cut}
use Rattle.run_tally.proofs.laws.law_tally.Goals as goal

pub returns-clause-run : goal.returns-clause-run
returns-clause-run c = tally-text

pub returns-clause-cut : goal.returns-clause-cut
returns-clause-cut c = tally-cut
