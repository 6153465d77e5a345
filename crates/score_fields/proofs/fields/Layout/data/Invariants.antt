use Rattle.std.proofs.Common.{◌≡◌, ◌≤◌, take, drop, length}
use Rattle.score_fields.specs.Fields.{data_from}
use Rattle.score_fields.proofs.TableLoops.{with_front}
use Rattle.score_fields.proofs.fields.Layout.data.Given as goal

abbrev pub invariant-loop-i : goal.invariant-loop-i
invariant-loop-i g l = record {
  within : l.at ≤ length l.bytes;
  long : length l.values ≡ length l.self.fields;
  read : with_front (take l.i l.values) (data_from (drop l.i l.self.fields) l.at l.bytes) ≡ data_from l.self.fields 1
      l.bytes;
}
