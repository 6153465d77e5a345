use Rattle.std.proofs.Common.{refl}
use Rattle.grid_laws.proofs.CutRuns.{cut-one, cut-events}
use Rattle.grid_laws.proofs.cuts.law_cut_document.Goals as goal

pub returns-clause-one : goal.returns-clause-one
returns-clause-one c = cut-one

pub returns-clause-events : goal.returns-clause-events
returns-clause-events c = cut-events
