use Rattle.grid_laws.proofs.CalmRuns.{calm-run, calm-lawful}
use Rattle.grid_laws.proofs.runs.law_calm_run.Goals as goal

pub returns : goal.returns
returns c = record { run = calm-run; lawful = calm-lawful }
