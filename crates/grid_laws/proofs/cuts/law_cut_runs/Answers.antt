use Rattle.grid_laws.proofs.CutRuns.{cut-start, cut-more, cut-whole}
use Rattle.grid_laws.proofs.cuts.law_cut_runs.Goals as goal

pub returns-clause-start : goal.returns-clause-start
returns-clause-start c = cut-start

pub returns-clause-more : goal.returns-clause-more
returns-clause-more c = cut-more

pub returns-clause-whole : goal.returns-clause-whole
returns-clause-whole c = cut-whole
