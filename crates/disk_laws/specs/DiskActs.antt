-- The acts in which the disks of a node have a part, and what they promise of one of their own.
use Rattle.std.specs.Prelude.{◌≡◌, ◌≢◌, ◌⊎◌, ℕ, ◌≤◌, Bool, true, false, ◌==◌, IsTrue, List, ◌∷◌, ◌++◌}
use Rattle.std.specs.List.{list_all}
use Rattle.score_base.specs.declared.ids.NodeId.{NodeId}
use Rattle.grid_model.specs.declared.acts.Act.{Act}
use Rattle.grid_model.specs.declared.acts.Act.TheVariants as act
use Rattle.grid_model.specs.Documents.{DocumentData}
use Rattle.grid_model.specs.Histories.{after}
use Rattle.grid_model.specs.Nodes.{is_home}
use Rattle.grid_model.specs.Runs.{is_let, is_stop, is_by_fuse}

-- the disks of n have a part in this act: a record, a compaction, a stop, an opening, an arming
abbrev pub is_of_disk : DocumentData → NodeId → Act → Bool
is_of_disk d n (act.Prepared m t p) = m == n
is_of_disk d n (act.Ended m t o) = m == n
is_of_disk d n (act.Ceiling m c) = m == n
is_of_disk d n (act.Decided t f) = is_home d t n
is_of_disk d n (act.Closed t) = is_home d t n
is_of_disk d n (act.Compacted m) = m == n
is_of_disk d n (act.Down m h) = m == n
is_of_disk d n (act.Up m f) = m == n
is_of_disk d n (act.StillDown m) = m == n
is_of_disk d n (act.Armed m k how) = m == n
is_of_disk d n a = false

-- no disk has a part in this act
abbrev pub is_quiet : Act → Bool
is_quiet (act.Prepared m t p) = false
is_quiet (act.Ended m t o) = false
is_quiet (act.Ceiling m c) = false
is_quiet (act.Decided t f) = false
is_quiet (act.Closed t) = false
is_quiet (act.Compacted m) = false
is_quiet (act.Down m h) = false
is_quiet (act.Up m f) = false
is_quiet (act.StillDown m) = false
is_quiet (act.Armed m k how) = false
is_quiet a = true

-- What the disks of n promise of an act of theirs behind this past, where their counts rose by so much together: what
-- they do is what the fuse allows; a stop is by the fuse, or the counts rose; and they rose only in a stop.
pub record IsPromised (d : DocumentData) (past : List Act) (n : NodeId) (a : Act) (more : ℕ) : Type 0 where
  pub goes_on : IsTrue (is_let d past a n)
  pub paid : IsTrue (is_stop a n) → IsTrue (is_by_fuse d past a n) ⊎ (1 ≤ more)
  pub stopped : more ≢ 0 → IsTrue (is_stop a n)

-- The acts of an event behind this past, in one of which the disks of n have a part, and no other disks in any.
pub record IsDiskEvent (d : DocumentData) (past acts : List Act) (n : NodeId) (more : ℕ) : Type 0 where
  pub front : List Act
  pub turn : Act
  pub behind : List Act
  pub are : acts ≡ front ++ turn ∷ behind
  pub quiet_front : IsTrue (list_all is_quiet front)
  pub quiet_behind : IsTrue (list_all is_quiet behind)
  pub own : IsTrue (is_of_disk d n turn)
  pub promised : IsPromised d (after past front) n turn more
