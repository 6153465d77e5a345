use Rattle.snapshot_read.proofs.ReadRows.{read-behind}
use Rattle.snapshot_read.proofs.laws.law_read_view.Goals as goal

pub returns-clause-journal : goal.returns-clause-journal
returns-clause-journal c s x q hs desk acks = (read-behind s x q hs desk acks).journal

pub returns-clause-next : goal.returns-clause-next
returns-clause-next c s x q hs desk acks = (read-behind s x q hs desk acks).next

pub returns-clause-held : goal.returns-clause-held
returns-clause-held c s x q hs desk acks = (read-behind s x q hs desk acks).held
