-- Keys as bytes.
use Rattle.std.specs.Prelude.{ℕ, Bool, false, ◌&&◌, ◌||◌, not, nat_le, nat_eq, ◌==◌, List, [], ◌∷◌, length}
use Rattle.std.specs.Cmp.Lexicographic.{pointwise}
use Rattle.std.specs.List.{list_all}

-- 'a' to 'z', '0' to '9' or '_'
abbrev pub is_key_byte : ℕ → Bool
is_key_byte b = (nat_le 97 b && nat_le b 122) || (nat_le 48 b && nat_le b 57) || (b == 95)

-- '0' to '9'
abbrev pub is_digit : ℕ → Bool
is_digit b = nat_le 48 b && nat_le b 57

-- 1 to 32 such bytes, the first no digit
abbrev pub is_key : List ℕ → Bool
is_key [] = false
is_key (b ∷ bs) = not (is_digit b) && is_key_byte b && nat_le (length bs) 31 && list_all is_key_byte bs

-- two keys are the same
abbrev pub same_key : List ℕ → List ℕ → Bool
same_key a b = pointwise nat_eq a b
