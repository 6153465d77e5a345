-- Lawful runs: the start and the rows of the events, by the free choices of the disks; and what fuses
-- and faults let the disks choose.
use Rattle.std.specs.Prelude.{◌≡◌, ◌≢◌, ◌≤◌, ℕ, ◌+◌, Bool, true, false, ◌&&◌, ◌||◌, ◌==◌, not, IsTrue, List, [], ◌∷◌, ◌++◌, Some}
use Rattle.std.specs.List.{flat_map}
use Rattle.score_base.specs.declared.ids.NodeId.{NodeId}
use Rattle.grid_model.specs.declared.acts.Act.{Act}
use Rattle.grid_model.specs.declared.acts.Act.TheVariants as act
use Rattle.grid_model.specs.declared.acts.Flag.TheVariants as flag
use Rattle.grid_model.specs.declared.items.Item.{Item}
use Rattle.grid_model.specs.Documents.{DocumentData}
use Rattle.grid_model.specs.Histories.{after}
use Rattle.grid_model.specs.Fuses.{is_record_at, lets_record, lets_compaction, lets_found, stops_in, stops_opening}
use Rattle.grid_model.specs.States.{State, state_of}
use Rattle.grid_model.specs.Schedules.{Choice, row, start_row, events_in}

-- ---- the rows and the free choices

-- these acts are the rows of these events, one behind the other, by some choices of the disks
unfoldable pub Rows : DocumentData → List Act → List Item → List Act → Type 0
Rows d past [] h = h ≡ []
Rows d past (e ∷ es) h =
    (c : Choice) × (rest : List Act) × (h ≡ row d past e c ++ rest) × Rows d (after past (row d past e c)) es rest

-- The acts of a run of these items: the start, then the row of each event, and nothing more. Free are
-- whether a record is kept and a compaction goes on, whether a node that is opened comes up, and whether
-- what was in doubt is found.
pub record IsRun (d : DocumentData) (items : List Item) (h : List Act) : Type 0 where
  pub opens : NodeId → Bool
  pub rest : List Act
  pub start : h ≡ start_row d.cluster.nodes opens ++ rest
  pub rows : Rows d (after [] (start_row d.cluster.nodes opens)) (flat_map events_in items) rest

-- ---- what the fuses allow

-- an act on a state is one that the fuse of n allows
abbrev pub is_let_on : DocumentData → State → Act → NodeId → Bool
is_let_on d st (act.Up m flag.Kept) n = not (m == n) || lets_found (st.compacting n) (st.fuses_at_stop n)
is_let_on d st (act.Compacted m) n = not (m == n) || lets_compaction (st.fuses n)
is_let_on d st a n = not (is_record_at d a n) || lets_record (st.fuses n)

-- an act behind a past is one that the fuse of n allows
abbrev pub is_let : DocumentData → List Act → Act → NodeId → Bool
is_let d past a n = is_let_on d (state_of d past) a n

-- the fuse of n allows each of these acts
abbrev pub are_let : DocumentData → List Act → NodeId → Bool
are_let d [] n = true
are_let d (a ∷ past) n = is_let d past a n && are_let d past n

-- ---- faults

-- n stops in a record or in a compaction, or is not opened
abbrev pub is_stop : Act → NodeId → Bool
is_stop (act.Down m (Some h)) n = m == n
is_stop (act.StillDown m) n = m == n
is_stop a n = false

-- the stop of n by an act on a state is by its fuse
abbrev pub is_by_fuse_on : State → Act → NodeId → Bool
is_by_fuse_on st (act.Down m (Some h)) n = stops_in h (st.fuses n)
is_by_fuse_on st (act.StillDown m) n = stops_opening (st.fuses n) (st.nodes n).journal
is_by_fuse_on st a n = false

-- the same, behind a past
abbrev pub is_by_fuse : DocumentData → List Act → Act → NodeId → Bool
is_by_fuse d past a n = is_by_fuse_on (state_of d past) a n

-- 1 for what is so, and 0 for what is not
abbrev pub as_number : Bool → ℕ
as_number true = 1
as_number false = 0

-- how often n stopped in a record or in a compaction or was not opened
abbrev pub stops : List Act → NodeId → ℕ
stops [] n = 0
stops (a ∷ past) n = as_number (is_stop a n) + stops past n

-- how often of these it was not by the fuse
abbrev pub faults : DocumentData → List Act → NodeId → ℕ
faults d [] n = 0
faults d (a ∷ past) n = as_number (is_stop a n && not (is_by_fuse d past a n)) + faults d past n

-- a rise of the count of n's disk by this number explains its stops
pub record Explains (d : DocumentData) (past : List Act) (n : NodeId) (rise : ℕ) : Type 0 where
  pub most : faults d past n ≤ rise
  pub some : rise ≢ 0 → stops past n ≢ 0

-- ---- lawful

-- A lawful run of a document, where the count of each node's disk rose by so much: the acts are those of
-- the start and of the rows in order, by the free choices; each choice is one that the fuses allow; and
-- each stop is by a fuse or is counted.
pub record Lawful (d : DocumentData) (h : List Act) (rise : NodeId → ℕ) : Type 0 where
  pub run : IsRun d d.items h
  pub fuses : (n : NodeId) → IsTrue (are_let d (after [] h) n)
  pub stops : (n : NodeId) → Explains d (after [] h) n (rise n)
