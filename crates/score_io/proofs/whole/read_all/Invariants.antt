use Rattle.std.proofs.Common.{◌≤◌, ◌+◌, ◌-◌, [], length, vec_len, IsSome}
use Rattle.score_io.specs.Streams.{Gained}
use Rattle.score_io.proofs.whole.read_all.Given as goal

abbrev pub invariant-loop-bytes : goal.invariant-loop-bytes
invariant-loop-bytes g l = record {
  within : length l.bytes.items ≤ l.max + 1;
  gained : Gained (g.S.Source.left l.fn.source) (g.S.Source.left l.source) [] l.bytes.items;
  later : g.S.Source.faults l.fn.source ≤ g.S.Source.faults l.source;
  tells : IsSome (g.S.Source.left l.fn.source) → IsSome (g.S.Source.left l.source);
}

abbrev pub decreases-loop-bytes : goal.decreases-loop-bytes
decreases-loop-bytes g l = l.max + 1 - vec_len l.bytes
