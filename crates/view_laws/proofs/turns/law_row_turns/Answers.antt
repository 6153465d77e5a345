use Rattle.view_laws.proofs.RowTurns.{came-quiet, row-quiet, row-turn, row-leaves}
use Rattle.view_laws.proofs.turns.law_row_turns.Goals as goal

pub returns-clause-came : goal.returns-clause-came
returns-clause-came c = came-quiet

pub returns-clause-quiet : goal.returns-clause-quiet
returns-clause-quiet c = row-quiet

pub returns-clause-turn : goal.returns-clause-turn
returns-clause-turn c = row-turn

pub returns-clause-leaves : goal.returns-clause-leaves
returns-clause-leaves c = row-leaves
