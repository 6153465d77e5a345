use Rattle.grid_laws.specs.CalmRuns.{calm_run}
use Rattle.grid_laws.proofs.CalmRuns.{calm-lawful, one-run}
use Rattle.grid_laws.proofs.runs.law_one_history.Goals as goal

pub returns : goal.returns
returns c = record { some = λ d unfused. (calm_run d, calm-lawful d unfused); one = one-run }
