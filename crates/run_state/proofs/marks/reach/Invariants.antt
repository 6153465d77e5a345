use Rattle.std.proofs.Common.{◌≡◌, ℕ, length}
use Rattle.run_state.specs.Kept.{is_marked}
use Rattle.run_state.proofs.marks.reach.Given as goal

abbrev pub invariant-loop-place : goal.invariant-loop-place
invariant-loop-place l = record {
  long : length l.marks.items ≡ l.place;
  same : (k : ℕ) → is_marked l.marks.items k ≡ is_marked l.fn.marks.items k;
}
