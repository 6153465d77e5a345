-- The one act of an event in which the disks of its node have a part, and what is said of them behind the event.
use Rattle.std.specs.Prelude.{◌≡◌, Bool, true, false, List, ◌∷◌, Option, Some, is_some}
use Rattle.std.specs.List.{list_all}
use Rattle.score_base.specs.declared.ids.NodeId.{NodeId}
use Rattle.score_base.specs.declared.records.Record.{Record}
use Rattle.grid_model.specs.declared.acts.Act.{Act}
use Rattle.grid_model.specs.declared.acts.Act.TheVariants as act
use Rattle.grid_model.specs.Disks.{disklog, is_compacting}
use Rattle.grid_model.specs.Documents.{DocumentData}
use Rattle.grid_model.specs.Fuses.{fuse, fuse_at_stop, is_record_at, with_record}
use Rattle.grid_model.specs.Nodes.{Writes, change, got, journal, node, written}
use Rattle.grid_model.specs.Schedules.{head_of as head_of_act}
use Rattle.node_core.specs.Heads.{head_of}

-- an act in which no disk has a part: no record, no compaction, no stop, no opening and no fuse
abbrev pub is_quiet : Act → Bool
is_quiet (act.Prepared n t p) = false
is_quiet (act.Ended n t o) = false
is_quiet (act.Ceiling n c) = false
is_quiet (act.Decided t f) = false
is_quiet (act.Closed t) = false
is_quiet (act.Compacted n) = false
is_quiet (act.Armed n k how) = false
is_quiet (act.Down n h) = false
is_quiet (act.Up n f) = false
is_quiet (act.StillDown n) = false
is_quiet a = true

-- the first of these acts behind a past stands for the record x at n, and the others are quiet
pub record HasTurn (d : DocumentData) (past : List Act) (n : NodeId) (x : Record) (acts : List Act) : Type 0 where
  pub turn : Act
  pub behind : List Act
  pub are : acts ≡ turn ∷ behind
  pub head : head_of_act turn ≡ Some (head_of x)
  pub at : is_record_at d turn n ≡ true
  pub writes : change d (got past) turn n ≡ Writes (Some x)
  pub quiet : list_all is_quiet behind ≡ true

-- The acts since a past wrote this record at n, where there is one, in its journal and in its live file, and its fuse
-- counts it; the node is as up as before, with the record in doubt, the compaction in doubt and the fuse at its last
-- stop as before.
pub record LeavesDisks (d : DocumentData) (past now : List Act) (n : NodeId) (x : Option Record) : Type 0 where
  pub journal : journal d now n ≡ written x (journal d past n)
  pub disklog : disklog d now n ≡ written x (disklog d past n)
  pub up : (node d now n).up ≡ (node d past n).up
  pub doubt : (node d now n).doubt ≡ (node d past n).doubt
  pub compacting : is_compacting now n ≡ is_compacting past n
  pub fuse : fuse d now n ≡ with_record (is_some x) (fuse d past n)
  pub fuse_at_stop : fuse_at_stop d now n ≡ fuse_at_stop d past n
