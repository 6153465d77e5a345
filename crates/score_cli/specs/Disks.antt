-- The disks that a run is given, and what is claimed of a run over them.
use Rattle.std.specs.Prelude.{◌≡◌, ℕ, ◌≤◌, List, length, slice_get, Option, Some, None}
use Rattle.score_base.specs.declared.ids.NodeId.{NodeId}
use Rattle.score_disk.specs.Files.{Empty, IsSettled}
use Rattle.score_disk.specs.declared.disk.Disk.{Ghosts}
use Rattle.grid_model.specs.declared.acts.Act.{Act}
use Rattle.grid_model.specs.Documents.{DocumentData}
use Rattle.disk_laws.specs.Holds.{Holds, first_of_node, second_of_node}
use Rattle.disk_laws.specs.SoFar.{IsJointRise}
use Rattle.grid_world.specs.Replays.{files}
use Rattle.score_cli.specs.Headline.{Headline}

module _ {D : Type 0} (g : Ghosts D) where
  -- a disk as it is handed in: it tells its file, which is empty and settled
  pub record IsBlank (disk : D) : Type 0 where
    pub empty : Empty (g.tells disk) (g.file disk)
    pub settled : IsSettled (g.file disk)

  -- there are 32 disks, two for each of 16 nodes, and all are blank
  pub record AreBlank (disks : List D) : Type 0 where
    pub count : length disks ≡ 32
    pub each : (m : ℕ) (disk : D) → slice_get disks m ≡ Some disk → IsBlank disk

  -- the count of faults of a disk, where there is one
  abbrev pub faults_in : Option D → ℕ
  faults_in None = 0
  faults_in (Some disk) = g.faults disk

  -- the counts of faults of these disks, by their places
  abbrev pub counts : List D → ℕ → ℕ
  counts disks m = faults_in (slice_get disks m)

  -- The document was played, with these acts, over disks that were given so and are left so, each in its place: the
  -- headline holds of the acts, by what the counts of each node's two disks rose together; and the disks hold what was
  -- acknowledged.
  pub record Played (d : DocumentData) (h : List Act) (given left : List D) : Type 0 where
    pub rise : NodeId → ℕ
    pub headline : Headline d h rise
    pub rises : (n : NodeId) → 1 ≤ n → n ≤ d.cluster.nodes
        → IsJointRise (counts given (first_of_node n)) (counts given (second_of_node n)) (counts left (first_of_node n))
        (counts left (second_of_node n)) (rise n)
    pub holds : Holds d h (files g given) (files g left)
    pub places : length left ≡ length given
