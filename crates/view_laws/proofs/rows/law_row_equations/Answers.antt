use Rattle.view_laws.proofs.RowEquations.{begin-row, deliver-row, next-row, retry-row, ask-row, peer-row, peer-none, compact-row, begin-comes, deliver-comes}
use Rattle.view_laws.proofs.rows.law_row_equations.Goals as goal

pub returns-clause-begin : goal.returns-clause-begin
returns-clause-begin c = begin-row

pub returns-clause-deliver : goal.returns-clause-deliver
returns-clause-deliver c = deliver-row

pub returns-clause-next : goal.returns-clause-next
returns-clause-next c = next-row

pub returns-clause-retry : goal.returns-clause-retry
returns-clause-retry c = retry-row

pub returns-clause-ask : goal.returns-clause-ask
returns-clause-ask c = ask-row

pub returns-clause-peer : goal.returns-clause-peer
returns-clause-peer c = peer-row

pub returns-clause-peer_none : goal.returns-clause-peer_none
returns-clause-peer_none c = peer-none

pub returns-clause-compact : goal.returns-clause-compact
returns-clause-compact c = compact-row

pub returns-clause-begin_comes : goal.returns-clause-begin_comes
returns-clause-begin_comes c = begin-comes

pub returns-clause-deliver_comes : goal.returns-clause-deliver_comes
returns-clause-deliver_comes c = deliver-comes

pub returns-clause-others_come : goal.returns-clause-others_come
returns-clause-others_come c d past n m t y = (tt, tt, tt, tt)
