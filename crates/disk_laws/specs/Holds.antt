-- What the disks hold at the end of a run.
use Rattle.std.specs.Prelude.{◌≡◌, ℕ, ◌+◌, ◌-◌, ◌*◌, ◌≤◌, IsTrue, List, [], Some, Ok}
use Rattle.score_base.specs.declared.ids.NodeId.{NodeId}
use Rattle.score_base.specs.declared.ids.TxId.{TxId}
use Rattle.score_base.specs.declared.records.Record.{Record}
use Rattle.script_lang.specs.Scripts.{ScriptData}
use Rattle.script_lang.specs.Reads.{is_update}
use Rattle.score_disk.specs.Files.{File, IsSettled}
use Rattle.node_journal.specs.Pairs.{pair_log}
use Rattle.grid_model.specs.declared.acts.Act.{Act}
use Rattle.grid_model.specs.Documents.{DocumentData}
use Rattle.grid_model.specs.Histories.{after}
use Rattle.grid_model.specs.Nodes.{script_of}
use Rattle.grid_model.specs.Copies.{is_finished}
use Rattle.grid_model.specs.Claims.{AreLogs, IsKept}

-- the places of the two disks of a node among all disks
abbrev pub first_of_node : NodeId → ℕ
first_of_node n = 2 * (n - 1)

abbrev pub second_of_node : NodeId → ℕ
second_of_node n = 2 * (n - 1) + 1

-- both files are settled, and their log is these records
pub record HoldBoth (records : List Record) (first second : File) : Type 0 where
  pub first_settled : IsSettled first
  pub second_settled : IsSettled second
  pub log : pair_log first.seen second.seen ≡ Ok records

-- Holds: each two disks of a node are settled, and their log is one that the node may hold: its disk list; where it
-- stopped in a record, also that list with the record behind it; where it stopped in a compaction, also its Small. In
-- these logs each finished update is kept. The files that are no node's are as they were given.
pub record Holds (d : DocumentData) (h : List Act) (given files : ℕ → File) : Type 0 where
  pub logs : NodeId → List Record
  pub disks : (n : NodeId) → 1 ≤ n → n ≤ d.cluster.nodes
      → HoldBoth (logs n) (files (first_of_node n)) (files (second_of_node n))
  pub are_logs : AreLogs d (after [] h) logs
  pub updates : (s : ScriptData) (t : TxId) → script_of t d.scripts ≡ Some s → IsTrue (is_update s.ops)
      → IsTrue (is_finished (after [] h) t) → IsKept d (after [] h) logs s
  pub others : (m : ℕ) → 2 * d.cluster.nodes ≤ m → files m ≡ given m
