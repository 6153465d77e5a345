-- What one record more at the end of a list in the order of time is to the list newest first.
use Rattle.std.proofs.Common.{◌≡◌, ℕ, ◌+◌, ◌<◌, List, [], ◌∷◌, length, get_or, take, reverse, ap, ◌∙◌}
use Rattle.std.proofs.lemmas.List.{take_more, reverse-append}

pub newest_more : {A : Type 0} (xs : List A) (i : ℕ) (d : A) → i < length xs
    → reverse (take (i + 1) xs) ≡ get_or xs i d ∷ reverse (take i xs)
newest_more xs i d h = ap reverse (take_more xs i d h) ∙ reverse-append (take i xs) (get_or xs i d ∷ [])
