-- The versions of one key.
use Rattle.std.specs.Prelude.{ℕ, ◌<◌, List, [], ◌∷◌, max, nat_lt, nat_le, if◌then◌else◌}

-- a key's initial value, its versions in rising order, and the room for more of them
pub record Versions : Type 0 where
  pub initial : ℕ
  pub versions : List (ℕ × ℕ)
  pub spare : ℕ

-- each identifier is above the one before it, and the first is above n
abbrev pub RisesFrom : ℕ → List (ℕ × ℕ) → Type 0
RisesFrom n [] = Unit {0}
RisesFrom n (v ∷ vs) = (n < v.0) × RisesFrom v.0 vs

-- the greatest identifier, or 0 where there is no version
abbrev pub newest_in_chain : List (ℕ × ℕ) → ℕ
newest_in_chain [] = 0
newest_in_chain (v ∷ vs) = max v.0 (newest_in_chain vs)

-- the version with the greater identifier
abbrev pub greater : ℕ × ℕ → ℕ × ℕ → ℕ × ℕ
greater v w = if nat_lt v.0 w.0 then w else v

-- the greatest version at or below sid, where version 0 has the initial value
abbrev pub version_in_chain : ℕ → List (ℕ × ℕ) → ℕ → ℕ × ℕ
version_in_chain initial [] sid = (0, initial)
version_in_chain initial (v ∷ vs) sid =
    if nat_le v.0 sid then greater v (version_in_chain initial vs sid) else version_in_chain initial vs sid
