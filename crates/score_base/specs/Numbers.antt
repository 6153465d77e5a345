-- Numbers as text: decimal digits, no leading zero, below 2^64.
use Rattle.std.specs.Prelude.{ℕ, ◌+◌, ◌-◌, ◌*◌, ◌^◌, ◌==◌, ◌&&◌, not, nat_lt, List, [], ◌∷◌, length, Option, Some, None, if◌then◌else◌}
use Rattle.std.specs.Char.{is_ascii_digit}

-- what these digits say behind the digits of n
abbrev pub digits_from : ℕ → List ℕ → Option ℕ
digits_from n [] = Some n
digits_from n (b ∷ bs) =
    if is_ascii_digit b && nat_lt (10 * n + (b - 48)) (2 ^ 64) then digits_from (10 * n + (b - 48)) bs else None

-- the number that a word spells
abbrev pub number : List ℕ → Option ℕ
number [] = None
number (b ∷ bs) = if (b == 48) && not (length bs == 0) then None else digits_from 0 (b ∷ bs)
