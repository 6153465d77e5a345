use Rattle.std.proofs.Common.{◌≡◌, ◌<◌, ◌+◌, ◌*◌, ◌%◌, ◌^◌, drop}
use Rattle.std.specs.Prelude.{fold}
use Rattle.placement.proofs.clusters.key_sum.Given as goal

abbrev pub invariant-loop-b : goal.invariant-loop-b
invariant-loop-b l = record {
  told : fold (λ h b. (31 * h + b) % 2 ^ 32) l.sum (drop l.b-index l.key) ≡ fold (λ h b. (31 * h + b) % 2 ^ 32) 0 l.key;
  small : l.sum < 2 ^ 32;
}
