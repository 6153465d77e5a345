use Rattle.presumed_abort.proofs.DeskRows.{vote-is-row}
use Rattle.presumed_abort.proofs.laws.law_vote_row.Goals as goal

pub returns : goal.returns
returns c = λ n v desk x t b unique is fit. vote-is-row n v desk x t b unique is fit
