use Rattle.std.proofs.Common.{length}
use Rattle.score_fields.specs.Spelling.{IsWrite, AreWrites, write_bytes}
use Rattle.score_fields.proofs.ListLoops.{Left}
use Rattle.score_fields.proofs.lists.list_writes.Given as goal

abbrev pub invariant-loop-text : goal.invariant-loop-text
invariant-loop-text l = Left IsWrite AreWrites write_bytes l.list l.rest l.bytes

abbrev pub decreases-loop-text : goal.decreases-loop-text
decreases-loop-text l = length l.rest
