use Rattle.session_laws.proofs.SessionOrders.{session-order}
use Rattle.session_laws.proofs.sessions.law_sessions.Goals as goal

pub returns : goal.returns
returns c = λ d h run. session-order d d.items h run
