-- A run that is played event by event, and what it leaves.
use Rattle.std.specs.Prelude.{◌≡◌, ℕ, ◌+◌, ◌≤◌, false, List, [], ◌++◌, drop, length, slice_get, Option, Some, None}
use Rattle.score_base.specs.declared.ids.NodeId.{NodeId}
use Rattle.score_disk.specs.Files.{File}
use Rattle.score_disk.specs.declared.disk.Disk.{Ghosts}
use Rattle.grid_model.specs.declared.acts.Act.{Act}
use Rattle.grid_model.specs.declared.items.Item.{Item}
use Rattle.grid_model.specs.Cuts.{events}
use Rattle.grid_model.specs.Documents.{DocumentData, IsOne}
use Rattle.grid_model.specs.Runs.{Lawful}
use Rattle.disk_laws.specs.Holds.{Holds, first_of_node, second_of_node}
use Rattle.disk_laws.specs.SoFar.{IsJointRise}
use Rattle.grid_world.specs.declared.worlds.World.{World}
use Rattle.grid_world.specs.Follows.{Follows, owns}

-- these are the next events of the document behind the first e
abbrev pub AreNext : DocumentData → ℕ → List Item → Type 0
AreNext d e is = (later : List Item) × (drop e (events d) ≡ is ++ later)

-- a file that no disk holds
abbrev pub no_file : File
no_file = record { seen = []; touched = λ i. false; least = 0; greatest = 0 }

module _ {D : Type 0} (g : Ghosts D) where
  -- the file of a disk, where there is one
  abbrev pub file_in : Option D → File
  file_in None = no_file
  file_in (Some disk) = g.file disk

  -- the files of these disks, by their places
  abbrev pub files : List D → ℕ → File
  files disks m = file_in (slice_get disks m)

module _ {D : Type 0} {g : Ghosts D} where
  -- the world follows some run of the document, of which these are the next events; 50,000 events are the most
  pub record CanPlayAll (d : DocumentData) (is : List Item) (w : World D g) : Type 0 where
    pub one : IsOne d
    pub e : ℕ
    pub h : List Act
    pub given : List D
    pub follows : Follows d e h given w
    pub next : AreNext d e is
    pub few : e + length is ≤ 50000

  -- whatever run the world follows, where these are its next events: it follows the run with these acts
  abbrev pub PlaysAll : DocumentData → List Item → World D g → World D g → List Act → Type 0
  PlaysAll d is w w' acts =
      (e : ℕ) (h : List Act) (given : List D) → IsOne d → Follows d e h given w → AreNext d e is
      → e + length is ≤ 50000 → Follows d (e + length is) (h ++ acts) given w'

-- The document was played over disks that were given so, and are left so: the acts are a lawful run of it by the counts
-- of the disks, which rose by so much; and the disks, as many as were given, hold what was acknowledged.
pub record HasReplayed {D : Type 0} (g : Ghosts D) (d : DocumentData) (given left : List D) (h : List Act) : Type 0
  where
    pub rise : NodeId → ℕ
    pub lawful : Lawful d h rise
    pub rises : (n : NodeId) → 1 ≤ n → n ≤ d.cluster.nodes
        → IsJointRise (owns g given (first_of_node n)) (owns g given (second_of_node n)) (owns g left (first_of_node n))
        (owns g left (second_of_node n)) (rise n)
    pub holds : Holds d h (files g given) (files g left)
    pub places : length left ≡ length given

module _ {D : Type 0} {g : Ghosts D} where
  -- these events were played, and their acts stand behind those before
  pub record Adds (d : DocumentData) (is : List Item) (w w' : World D g) (old new : List Act) : Type 0 where
    pub acts : List Act
    pub plays : PlaysAll d is w w' acts
    pub behind : new ≡ old ++ acts
