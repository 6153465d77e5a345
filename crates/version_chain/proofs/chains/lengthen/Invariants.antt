use Rattle.std.proofs.Common.{◌≤◌, length}
use Rattle.version_chain.specs.Kept.{IsLonger}
use Rattle.version_chain.proofs.chains.lengthen.Given as goal

abbrev pub invariant-loop : goal.invariant-loop
invariant-loop l = record {
  longer : IsLonger l.fn.chains.items l.chains.items;
  many : l.counter ≤ length l.chains.items;
}
