-- The fuse that the acts leave, and what is left of the fuses of the two disks of a node.
use Rattle.std.specs.Prelude.{◌≡◌, ◌≤◌, ℕ, ◌+◌, ◌*◌, ◌==◌, ◌&&◌, Bool, true, Option, Some, None}
use Rattle.grid_model.specs.Fuses.{Fuse}

-- So many calls are left of an armed fuse at the live disk and at the other, and none was stopped: at the live one
-- those since it was armed are four for each record, and at most two for each opening of an empty journal, which
-- takes two where the file was made anew and else none; at the other there was none.
pub record IsBurnt (x : Fuse) (live other : ℕ) : Type 0 where
  pub unstopped : 1 ≤ live
  pub least : live + 4 * x.records ≤ x.k
  pub most : x.k ≤ live + 4 * x.records + 2 * x.opened
  pub whole : other ≡ x.k

-- None is armed, or all are and the numbers agree.
abbrev pub IsTied : Option Fuse → Option ℕ → Option ℕ → Type 0
IsTied None None None = Unit {0}
IsTied (Some x) (Some live) (Some other) = IsBurnt x live other
IsTied x live other = ⊥

-- no record and no opening stands behind the arming
abbrev pub is_fresh : Option Fuse → Bool
is_fresh None = true
is_fresh (Some x) = (x.records == 0) && (x.opened == 0)
