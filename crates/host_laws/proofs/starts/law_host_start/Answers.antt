use Rattle.host_laws.proofs.FirstOpenings.{first-untouched, new-openable, start-follows}
use Rattle.host_laws.proofs.starts.law_host_start.Goals as goal

pub returns-clause-openable : goal.returns-clause-openable
returns-clause-openable g c n k a b = new-openable _ n k a b

pub returns-clause-untouched : goal.returns-clause-untouched
returns-clause-untouched g c n k a b p f = first-untouched n k a b p f

pub returns-clause-starts : goal.returns-clause-starts
returns-clause-starts g c d given hosts opens = start-follows d given hosts opens
