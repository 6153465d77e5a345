use Rattle.presumed_abort.proofs.DeskRows.{ack-is-row}
use Rattle.presumed_abort.proofs.laws.law_ack_row.Goals as goal

pub returns : goal.returns
returns c = λ n v desk x t unique is apart fit. ack-is-row n v desk x t unique is apart fit
