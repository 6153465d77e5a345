use Rattle.presumed_abort.proofs.DeskRows.{ask-is-row}
use Rattle.presumed_abort.proofs.laws.law_ask_row.Goals as goal

pub returns : goal.returns
returns c = λ n v desk x t unique is fit. ask-is-row n v desk x t unique is fit
