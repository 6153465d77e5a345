use Rattle.copy_laws.proofs.OneCopies.{kept}
use Rattle.copy_laws.proofs.copies.law_kept.Goals as goal

pub returns : goal.returns
returns c = kept
