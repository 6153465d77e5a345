use Rattle.presumed_abort.proofs.DeskRows.{begin-is-row}
use Rattle.presumed_abort.proofs.laws.law_begin_row.Goals as goal

pub returns : goal.returns
returns c = λ n v desk s floor unique is fit. begin-is-row n v desk s floor unique is fit
