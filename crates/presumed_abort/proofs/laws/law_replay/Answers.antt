use Rattle.presumed_abort.proofs.Replayed.{opened-desk}
use Rattle.presumed_abort.proofs.laws.law_replay.Goals as goal

pub returns : goal.returns
returns c = λ v none acks. opened-desk v none acks
