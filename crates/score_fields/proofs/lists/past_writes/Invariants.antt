use Rattle.std.proofs.Common.{◌≡◌, ◌-◌, ◌<◌, length}
use Rattle.score_fields.specs.Reading.{first_many, first_write, first_writes}
use Rattle.score_fields.proofs.ListCodecs.{behind}
use Rattle.score_fields.proofs.lists.past_writes.Given as goal

abbrev pub invariant-loop : goal.invariant-loop
invariant-loop l = record {
  value : behind (first_many first_write (l.count - l.counter) l.rest) ≡ behind (first_writes l.bytes);
  shorter : length l.rest < length l.bytes;
}
