-- What acts leave of a node as it was.
use Rattle.std.specs.Prelude.{◌≡◌, true, List}
use Rattle.score_base.specs.declared.ids.TxId.{TxId}
use Rattle.score_base.specs.declared.ids.NodeId.{NodeId}
use Rattle.grid_model.specs.declared.acts.Act.{Act}
use Rattle.grid_model.specs.Disks.{disklog, is_compacting}
use Rattle.grid_model.specs.Documents.{DocumentData}
use Rattle.grid_model.specs.Fuses.{fuse, fuse_at_stop}
use Rattle.grid_model.specs.Nodes.{is_home, node}
use Rattle.grid_model.specs.Stories.{story}
use Rattle.grid_model.specs.Views.{view}

-- The acts since a past left node n as it was: its view, its journal, its record in doubt and whether it is up; the
-- list of its live file; whether it stopped in a compaction; its fuses; and what happened to its transactions.
pub record IsUnmoved (d : DocumentData) (past now : List Act) (n : NodeId) : Type 0 where
  pub view : view d now n ≡ view d past n
  pub node : node d now n ≡ node d past n
  pub disklog : disklog d now n ≡ disklog d past n
  pub compacting : is_compacting now n ≡ is_compacting past n
  pub fuse : fuse d now n ≡ fuse d past n
  pub fuse_at_stop : fuse_at_stop d now n ≡ fuse_at_stop d past n
  pub stories : (t : TxId) → is_home d t n ≡ true → story d now t ≡ story d past t
