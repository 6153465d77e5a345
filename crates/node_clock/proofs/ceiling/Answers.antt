use Rattle.node_clock.proofs.Multiples.{next_multiple}
use Rattle.node_clock.proofs.ceiling.Goals as goal

pub returns-else-over-eq0 : goal.returns-else-over-eq0
returns-else-over-eq0 c = next_multiple c.args.step c.args.n c.requires.step c.if-over-eq0.false
