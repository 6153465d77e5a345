-- How the calls that a fuse counts add up.
use Rattle.std.proofs.Common.{◌≡◌, ℕ, ◌+◌, ◌-◌, Option, Some, None, refl, ap, ◌∙◌, arith}
use Rattle.node_journal.specs.Calls.{lowered, LoweredAtMost}

pub lowered-lowered : (m n : ℕ) (left : Option ℕ) → lowered m (lowered n left) ≡ lowered (n + m) left
lowered-lowered m n None = refl
lowered-lowered m n (Some k) = let same : (k - n) - m ≡ k - (n + m) = omega arith in ap Some same

-- so many calls, and then at most so many
pub lowered_more : (n most : ℕ) (old between now : Option ℕ) → between ≡ lowered n old → LoweredAtMost most between now
    → LoweredAtMost (n + most) old now
lowered_more n most old between now e l = record {
  calls = n + l.calls;
  within = omega (arith, l.within);
  falls = l.falls ∙ ap (lowered l.calls) e ∙ lowered-lowered l.calls n old;
}
