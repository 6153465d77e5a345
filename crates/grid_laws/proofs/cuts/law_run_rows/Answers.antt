use Rattle.grid_laws.proofs.CutRuns.{run-rows}
use Rattle.grid_laws.proofs.cuts.law_run_rows.Goals as goal

pub returns : goal.returns
returns c = run-rows
