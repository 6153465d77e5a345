use Rattle.snapshot_read.proofs.ReadRows.{read-row}
use Rattle.snapshot_read.proofs.laws.law_read.Goals as goal

pub returns : goal.returns
returns c s x q = read-row s x q
