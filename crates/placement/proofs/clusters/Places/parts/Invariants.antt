use Rattle.std.proofs.Common.{◌≡◌, ◌++◌, ◌≤◌}
use Rattle.std.specs.List.{list_any}
use Rattle.placement.specs.Places.{holds, parts}
use Rattle.placement.proofs.Rising.{rising_from}
use Rattle.placement.proofs.clusters.Places.parts.Given as goal

abbrev pub invariant-loop-number : goal.invariant-loop-number
invariant-loop-number l = record {
  told : l.parts ++ rising_from (λ n. list_any (holds l.self n) l.keys) l.number ≡ parts l.self l.keys;
  least : 1 ≤ l.number;
  most : l.number ≤ 17;
}
