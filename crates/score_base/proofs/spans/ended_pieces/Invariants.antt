use Rattle.std.proofs.Common.{◌≡◌, ◌≤◌, ◌++◌, drop}
use Rattle.score_base.proofs.Places.{walk}
use Rattle.score_base.proofs.spans.ended_pieces.Given as goal

abbrev pub invariant-loop-at : goal.invariant-loop-at
invariant-loop-at l = record {
  begun : l.start ≤ l.at;
  found : l.spans.items ++ walk l.separator l.start l.at (drop l.at l.text) ≡ walk l.separator 0 0 l.text;
}
