use Rattle.std.proofs.Common.{refl}
use Rattle.view_laws.proofs.SameRecords.{row-writes, same-record, stop-row, doubt-stands, silent-kept}
use Rattle.view_laws.proofs.records.law_same_records.Goals as goal

pub returns-clause-row : goal.returns-clause-row
returns-clause-row c = row-writes

pub returns-clause-same : goal.returns-clause-same
returns-clause-same c = same-record

pub returns-clause-stop : goal.returns-clause-stop
returns-clause-stop c = stop-row

pub returns-clause-doubt : goal.returns-clause-doubt
returns-clause-doubt c = doubt-stands

pub returns-clause-silent : goal.returns-clause-silent
returns-clause-silent c = silent-kept

pub returns-clause-compaction : goal.returns-clause-compaction
returns-clause-compaction c n v = refl

pub returns-clause-keeps : goal.returns-clause-keeps
returns-clause-keeps c n os = refl
