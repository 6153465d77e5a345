use Rattle.presumed_abort.proofs.DeskRows.{reply-is-row}
use Rattle.presumed_abort.proofs.laws.law_reply_row.Goals as goal

pub returns : goal.returns
returns c = λ n v desk x q unique is own fit. reply-is-row n v desk x q unique is own fit
