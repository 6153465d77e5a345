-- A run so far, and by how much the counts of its disks have risen.
use Rattle.std.specs.Prelude.{◌≡◌, ◌⊎◌, ◌≤◌, ℕ, ◌+◌, ◌-◌, ◌^◌, Bool, false, ◌==◌, IsTrue, List, if◌then◌else◌}
use Rattle.score_base.specs.declared.ids.NodeId.{NodeId}
use Rattle.grid_model.specs.declared.acts.Act.{Act}
use Rattle.grid_model.specs.Documents.{DocumentData}
use Rattle.grid_model.specs.Runs.{Lawful}
use Rattle.grid_model.specs.Cuts.{cut}

-- The first e events of the document were played, with these acts, and the counts of each node's disks have risen by so
-- much together since they were handed in: that is lawful of the document cut behind these events.
abbrev pub LawfulSoFar : DocumentData → ℕ → List Act → (NodeId → ℕ) → Type 0
LawfulSoFar d e h rise = Lawful (cut e d) h rise

-- A count has risen by so much. At the end of its type it stands still, and may have risen by more than can be seen.
abbrev pub IsRise : ℕ → ℕ → ℕ → Type 0
IsRise given now rise = (now ≡ given + rise) ⊎ ((2 ^ 64 - 1 ≤ now) × (now ≤ given + rise))

-- The counts of two disks, each of which was given, have risen by so much together.
pub record IsJointRise (given_first given_second first second rise : ℕ) : Type 0 where
  pub of_first : ℕ
  pub of_second : ℕ
  pub first_is : IsRise given_first first of_first
  pub second_is : IsRise given_second second of_second
  pub sum : rise ≡ of_first + of_second

-- the rise of each node, where that of n rose by more
abbrev pub risen : (NodeId → ℕ) → NodeId → ℕ → NodeId → ℕ
risen rise n more m = if n == m then rise m + more else rise m

-- What the openings of the start promise: the disks of a node that is opened have no fault, those of one that is not
-- have one, and no other disk has any.
pub record HasOpened (nodes : ℕ) (opens : NodeId → Bool) (rise : NodeId → ℕ) : Type 0 where
  pub up : (n : NodeId) → IsTrue (opens n) → rise n ≡ 0
  pub failed : (n : NodeId) → opens n ≡ false → 1 ≤ n → n ≤ nodes → 1 ≤ rise n
  pub below : rise 0 ≡ 0
  pub above : (n : NodeId) → nodes + 1 ≤ n → rise n ≡ 0
