use Rattle.copy_laws.proofs.OneCopies.{one-copy}
use Rattle.copy_laws.proofs.copies.law_one_copy.Goals as goal

pub returns : goal.returns
returns c = one-copy
