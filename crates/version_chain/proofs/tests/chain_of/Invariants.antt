use Rattle.std.proofs.Common.{◌≡◌, ◌+◌, ◌≤◌, length}
use Rattle.version_chain.specs.Versions.{newest_in_chain}
use Rattle.version_chain.proofs.tests.chain_of.Given as goal

abbrev pub invariant-loop-i : goal.invariant-loop-i
invariant-loop-i l =
    (length l.chain.versions ≡ l.i) × (newest_in_chain l.chain.versions ≤ l.i) × (l.n ≤ l.chain.spare + l.i)
