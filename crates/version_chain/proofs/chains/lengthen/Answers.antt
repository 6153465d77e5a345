use Rattle.version_chain.proofs.Keyed.{longer-more}
use Rattle.version_chain.proofs.chains.lengthen.Goals as goal

pub returns-in_err-add-clause-longer : goal.returns-in_err-add-clause-longer
returns-in_err-add-clause-longer c = longer-more _ _ _ c.loop.invariant.longer c.add.ensures.longer
