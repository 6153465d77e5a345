-- How long numbers are.
use Rattle.std.proofs.Common.{◌≡◌, ℕ, ◌+◌, List, ◌++◌, length, refl, arith, length-append}
use Rattle.score_fields.specs.Spelling.{two_bytes, eight_bytes, key_bytes}

pub length-two_bytes : (n : ℕ) → length (two_bytes n) ≡ 2
unfolding two_bytes
length-two_bytes n = refl

pub length-eight_bytes : (n : ℕ) → length (eight_bytes n) ≡ 8
unfolding eight_bytes
length-eight_bytes n = refl

pub length-write_bytes : (key : List ℕ) (n : ℕ) → length (key_bytes key ++ eight_bytes n) ≡ 9 + length key
length-write_bytes key n = omega (arith, length-append (key_bytes key) (eight_bytes n), length-eight_bytes n)

pub ruleset lengths = (length-two_bytes, length-eight_bytes, length-write_bytes)
