use Rattle.copy_laws.proofs.OneCopies.{atomic}
use Rattle.copy_laws.proofs.copies.law_atomic.Goals as goal

pub returns : goal.returns
returns c = atomic
