-- The fuses of nodes, as the acts leave them, and what they let the disks choose.
use Rattle.std.specs.Prelude.{ℕ, ◌+◌, ◌*◌, Bool, true, false, ◌&&◌, ◌==◌, nat_lt, nat_le, List, [], ◌∷◌, Option, Some, None, if◌then◌else◌}
use Rattle.score_base.specs.declared.ids.NodeId.{NodeId}
use Rattle.score_base.specs.declared.records.Record.{Record}
use Rattle.grid_model.specs.declared.acts.Act.{Act}
use Rattle.grid_model.specs.declared.acts.Act.TheVariants as act
use Rattle.grid_model.specs.declared.acts.Head.{Head}
use Rattle.grid_model.specs.declared.acts.Head.TheVariants as head
use Rattle.grid_model.specs.Documents.{DocumentData}
use Rattle.grid_model.specs.Nodes.{Node, node, is_home}

-- an armed fuse: it stops the k-th device call; the records written and the openings of an empty
-- journal behind it
pub record Fuse : Type 0 where
  pub k : ℕ
  pub records : ℕ
  pub opened : ℕ

-- the node at which an act stands for a record is n
abbrev pub is_record_at : DocumentData → Act → NodeId → Bool
is_record_at d (act.Prepared m t p) n = m == n
is_record_at d (act.Ended m t o) n = m == n
is_record_at d (act.Ceiling m c) n = m == n
is_record_at d (act.Decided t f) n = is_home d t n
is_record_at d (act.Closed t) n = is_home d t n
is_record_at d a n = false

-- there is no record
abbrev pub is_empty : List Record → Bool
is_empty [] = true
is_empty (x ∷ r) = false

-- an armed fuse behind one record more
abbrev pub with_record : Bool → Option Fuse → Option Fuse
with_record b None = None
with_record b (Some x) = if b then Some (record x { records = x.records + 1 }) else Some x

-- an armed fuse behind one more opening of an empty journal
abbrev pub with_opening : Bool → Option Fuse → Option Fuse
with_opening b None = None
with_opening b (Some x) = if b then Some (record x { opened = x.opened + 1 }) else Some x

-- the fuse of n behind an act, which leaves this node
abbrev pub fuse_behind : DocumentData → Act → NodeId → Node → Option Fuse → Option Fuse
fuse_behind d (act.Armed m k how) n x o = if m == n then Some (record { k = k; records = 0; opened = 0 }) else o
fuse_behind d (act.Down m h) n x o = if m == n then None else o
fuse_behind d (act.StillDown m) n x o = if m == n then None else o
fuse_behind d (act.Compacted m) n x o = if m == n then None else o
fuse_behind d (act.Up m f) n x o = with_opening ((m == n) && is_empty x.journal) o
fuse_behind d a n x o = with_record (is_record_at d a n) o

-- the fuse of n, where it is armed: no Down, no StillDown and no Compacted stands behind it
abbrev pub fuse : DocumentData → List Act → NodeId → Option Fuse
fuse d [] n = None
fuse d (a ∷ past) n = fuse_behind d a n (node d (a ∷ past) n) (fuse d past n)

-- an append takes 4 device calls, making a file anew takes 2, and a compaction takes 6 or 8 on the other disk

-- a record may be kept: the fuse is not armed, or stops no call of its append
abbrev pub lets_record : Option Fuse → Bool
lets_record None = true
lets_record (Some x) = nat_lt (4 * x.records + 4) x.k

-- a stop in a record is by the fuse
abbrev pub stops_record : Option Fuse → Bool
stops_record None = false
stops_record (Some x) = nat_lt (4 * x.records) x.k && nat_le x.k (4 * x.records + 4 + 2 * x.opened)

-- a compaction may go on: the fuse is not armed, or is above the least number of its calls
abbrev pub lets_compaction : Option Fuse → Bool
lets_compaction None = true
lets_compaction (Some x) = nat_lt 6 x.k

-- a stop in a compaction is by the fuse
abbrev pub stops_compaction : Option Fuse → Bool
stops_compaction None = false
stops_compaction (Some x) = nat_le x.k 8

-- a stop with this head is by the fuse
abbrev pub stops_in : Head → Option Fuse → Bool
stops_in head.Compact o = stops_compaction o
stops_in h o = stops_record o

-- a failed opening is by the fuse
abbrev pub stops_opening : Option Fuse → List Record → Bool
stops_opening None r = false
stops_opening (Some x) r = nat_le x.k 2 && is_empty r

-- the gate of the record may be open: the fuse was not armed, or stopped the write of the gate or its sync
abbrev pub lets_gate : Option Fuse → Bool
lets_gate None = true
lets_gate (Some x) = nat_le (4 * x.records + 3) x.k

-- the version of the other file may stand: the fuse was not armed, or stopped its write, its sync or none
abbrev pub lets_version : Option Fuse → Bool
lets_version None = true
lets_version (Some x) = nat_le 5 x.k

-- what was in doubt may be found: a compaction, or else a record
abbrev pub lets_found : Bool → Option Fuse → Bool
lets_found true o = lets_version o
lets_found false o = lets_gate o

-- the fuse of n before its last Down, behind an act before which n had this fuse
abbrev pub stop_behind : Act → NodeId → Option Fuse → Option Fuse → Option Fuse
stop_behind (act.Down m h) n x o = if m == n then x else o
stop_behind a n x o = o

-- the fuse of n before its last Down
abbrev pub fuse_at_stop : DocumentData → List Act → NodeId → Option Fuse
fuse_at_stop d [] n = None
fuse_at_stop d (a ∷ past) n = stop_behind a n (fuse d past n) (fuse_at_stop d past n)
