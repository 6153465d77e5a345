use Rattle.presumed_abort.proofs.DeskRows.{retry-is-row}
use Rattle.presumed_abort.proofs.laws.law_retry_row.Goals as goal

pub returns : goal.returns
returns c = λ n v desk t unique is own. retry-is-row n v desk t unique is own
