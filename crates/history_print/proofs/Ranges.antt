-- A loop over a range of numbers that appends something for each of them.
use Rattle.std.proofs.Common.{◌≡◌, ℕ, ◌+◌, ◌-◌, ◌<◌, List, ◌++◌, sym, ap, ◌∙◌, append_assoc}
use Rattle.std.specs.List.{flat_map, range_with_len}
use Rattle.score_base.proofs.Ranges.{range_more}

-- one number more
pub put_more : (f : ℕ → List ℕ) (out new old : List ℕ) (i n : ℕ) → i < n → new ≡ out ++ f (i + 1)
    → out ++ flat_map f (range_with_len (i + 1) (n - i)) ≡ old
    → new ++ flat_map f (range_with_len (i + 1 + 1) (n - (i + 1))) ≡ old
put_more f out new old i n h put before =
    rw put (append_assoc out (f (i + 1)) (flat_map f (range_with_len (i + 1 + 1) (n - (i + 1)))) ∙ ap (λ r. out ++ flat_map f r) (sym (range_more (i + 1) n i h)) ∙ before)
