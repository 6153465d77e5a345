use Rattle.grid_laws.proofs.CutRuns.{run-front, cut-front}
use Rattle.grid_laws.proofs.cuts.law_cut_fronts.Goals as goal

pub returns-clause-of_run : goal.returns-clause-of_run
returns-clause-of_run c = run-front

pub returns-clause-of_cut : goal.returns-clause-of_cut
returns-clause-of_cut c = cut-front
