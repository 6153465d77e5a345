use Rattle.std.proofs.Common.{◌≡◌, ◌-◌, ◌<◌, length}
use Rattle.score_fields.specs.Reading.{first_many, first_key, first_keys}
use Rattle.score_fields.proofs.ListCodecs.{behind}
use Rattle.score_fields.proofs.lists.past_keys.Given as goal

abbrev pub invariant-loop : goal.invariant-loop
invariant-loop l = record {
  value : behind (first_many first_key (l.count - l.counter) l.rest) ≡ behind (first_keys l.bytes);
  shorter : length l.rest < length l.bytes;
}
