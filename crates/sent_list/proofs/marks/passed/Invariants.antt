use Rattle.std.proofs.Common.{length, ◌-◌, ◌≡◌, ◌+◌, drop}
use Rattle.sent_list.specs.SentLists.{passed}
use Rattle.sent_list.proofs.marks.passed.Given as goal

abbrev pub invariant-loop-at : goal.invariant-loop-at
invariant-loop-at l = passed l.marks ≡ l.at + passed (drop l.at l.marks)

abbrev pub decreases-loop-at : goal.decreases-loop-at
decreases-loop-at l = length l.marks - l.at
