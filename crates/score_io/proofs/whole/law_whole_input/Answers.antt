use Rattle.score_io.proofs.Streams.{whole_told, lost_told}
use Rattle.score_io.proofs.whole.law_whole_input.Goals as goal

pub returns-clause-whole : goal.returns-clause-whole
returns-clause-whole c = whole_told

pub returns-clause-long : goal.returns-clause-long
returns-clause-long c = lost_told
