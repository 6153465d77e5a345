-- An event that is no compaction.
use Rattle.std.proofs.Common.{◌≡◌, ℕ, Option}
use Rattle.score_base.specs.declared.ids.NodeId.{NodeId}
use Rattle.score_base.specs.declared.records.Record.{Record}
use Rattle.score_disk.specs.declared.disk.Disk.{Ghosts}
use Rattle.grid_model.specs.declared.events.Event.{Event}
use Rattle.grid_model.specs.Rows.{outs_of}
use Rattle.grid_model.specs.Views.{View}
use Rattle.node_core.specs.declared.nodes.Node.{Node}
use Rattle.node_core.specs.Steps.{row_of, Records, Moves}

-- its row, and what it leaves
pub record IsPlainEvent {D : Type 0} (g : Ghosts D) (e : Event) : Type 0 where
  pub row : (n : NodeId) (gen : ℕ) (v : View) → row_of n gen v e ≡ outs_of n v e
  pub moves : (old new : Node D g) (x : Option Record) → Records x old new → Moves e old new
