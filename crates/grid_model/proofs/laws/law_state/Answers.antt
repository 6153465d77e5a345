use Rattle.std.proofs.Common.{refl}
use Rattle.grid_model.proofs.StateLaws.{state-more}
use Rattle.grid_model.proofs.laws.law_state.Goals as goal

pub returns-clause-row : goal.returns-clause-row
returns-clause-row c d past i x = refl

pub returns-clause-step : goal.returns-clause-step
returns-clause-step c d past a = refl

pub returns-clause-behind : goal.returns-clause-behind
returns-clause-behind c = state-more
