use Rattle.cluster_file.proofs.OneSpelling.{numbered_items, spelled}
use Rattle.cluster_file.proofs.BytesAgain.{read_again}
use Rattle.cluster_file.proofs.laws.law_one_spelling.Goals as goal

pub returns-clause-writes : goal.returns-clause-writes
returns-clause-writes c = λ bytes d h. (spelled bytes d h).bytes_are

pub returns-clause-fits : goal.returns-clause-fits
returns-clause-fits c = λ bytes d h. ((spelled bytes d h).one, (spelled bytes d h).ranges)

pub returns-clause-numbered : goal.returns-clause-numbered
returns-clause-numbered c = λ bytes d h. numbered_items d (spelled bytes d h).ranges

pub returns-clause-reads : goal.returns-clause-reads
returns-clause-reads c = read_again
