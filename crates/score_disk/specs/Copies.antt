-- The two contents that a disk in memory keeps, and its marks.
use Rattle.std.specs.Prelude.{◌≡◌, ℕ, ◌≤◌, ◌<◌, Bool, false, List, length, slice_index}
use Rattle.std.specs.List.{slice_index_or}

-- whether a place is marked; past the marks it isn't
abbrev pub is_marked : List Bool → ℕ → Bool
is_marked marks i = slice_index_or marks i false

-- What a read gives and what is settled differ only at marked places. Each has a length between the least and the
-- number
-- of marks, and a place with a mark that isn't set lies below the least.
pub record Copies (bytes settled : List ℕ) (marks : List Bool) (least : ℕ) : Type 0 where
  pub bytes_least : least ≤ length bytes
  pub bytes_most : length bytes ≤ length marks
  pub settled_least : least ≤ length settled
  pub settled_most : length settled ≤ length marks
  pub same : (i : ℕ) → is_marked marks i ≡ false → slice_index settled i ≡ slice_index bytes i
  pub low : (i : ℕ) → is_marked marks i ≡ false → i < length marks → i < least
