use Rattle.run_tally.proofs.PhasesTold.{phases-first, phases-cut}
use Rattle.run_tally.proofs.laws.law_tally_phases.Goals as goal

pub returns-clause-run : goal.returns-clause-run
returns-clause-run c = phases-first

pub returns-clause-cut : goal.returns-clause-cut
returns-clause-cut c = phases-cut
