use Rattle.journal_records.proofs.RecordCodec.{decode_again, decode_takes, record_small}
use Rattle.journal_records.proofs.Taking.{can_encode}
use Rattle.journal_records.proofs.laws.law_record_spelling.Goals as goal

pub returns-clause-reads : goal.returns-clause-reads
returns-clause-reads c = decode_again

pub returns-clause-writes : goal.returns-clause-writes
returns-clause-writes c = λ body r fits e. (decode_takes body r fits e).1

pub returns-clause-fits : goal.returns-clause-fits
returns-clause-fits c = λ body r fits e. (decode_takes body r fits e).0

pub returns-clause-small : goal.returns-clause-small
returns-clause-small c = record_small

pub returns-clause-encodable : goal.returns-clause-encodable
returns-clause-encodable c = can_encode
