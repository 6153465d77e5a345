use Rattle.presumed_abort.proofs.OtherRows.{other-row}
use Rattle.presumed_abort.proofs.laws.law_other_row.Goals as goal

pub returns : goal.returns
returns c = λ n v desk e is at. other-row n v desk e is at
