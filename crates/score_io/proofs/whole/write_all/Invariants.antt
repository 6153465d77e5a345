use Rattle.std.proofs.Common.{◌≤◌, ◌-◌, length, take, IsSome}
use Rattle.std.specs.Io.KnownBytes.{Appends}
use Rattle.score_io.proofs.whole.write_all.Given as goal

abbrev pub invariant-loop-at : goal.invariant-loop-at
invariant-loop-at g l = record {
  within : l.at ≤ length l.bytes;
  sent : Appends (g.K.Sink.held l.fn.sink) (g.K.Sink.held l.sink) (take l.at l.bytes);
  later : g.K.Sink.faults l.fn.sink ≤ g.K.Sink.faults l.sink;
  tells : IsSome (g.K.Sink.held l.fn.sink) → IsSome (g.K.Sink.held l.sink);
}

abbrev pub decreases-loop-at : goal.decreases-loop-at
decreases-loop-at g l = length l.bytes - l.at
