-- Numbers that are counted up: the first of those that are left.
use Rattle.std.proofs.Common.{◌≡◌, ℕ, suc, ◌+◌, ◌-◌, ◌<◌, ◌∷◌, refl, arith}
use Rattle.std.specs.List.{range_with_len}

pub range_more : (a n i : ℕ) → i < n → range_with_len a (n - i) ≡ a ∷ range_with_len (a + 1) (n - (i + 1))
range_more a n i h = let e : n - i ≡ suc (n - (i + 1)) = omega arith in rw e refl
