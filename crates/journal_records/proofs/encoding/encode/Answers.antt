use Rattle.journal_records.proofs.Spelled.{small_from}
use Rattle.journal_records.proofs.encoding.encode.Goals as goal

pub returns-clause-small : goal.returns-clause-small
returns-clause-small c = small_from c.args.rec.now c.put_record.result c.put_record.ensures.record
