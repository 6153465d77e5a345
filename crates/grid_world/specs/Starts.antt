-- A world at its start: new, and opened.
use Rattle.std.specs.Prelude.{◌≡◌, ℕ, ◌+◌, Bool, List, [], ◌∷◌, length}
use Rattle.score_base.specs.declared.ids.NodeId.{NodeId}
use Rattle.score_disk.specs.declared.disk.Disk.{Ghosts}
use Rattle.grid_model.specs.declared.acts.Act.{Act}
use Rattle.grid_model.specs.declared.acts.Act.TheVariants as act
use Rattle.grid_model.specs.Documents.{DocumentData, IsOne}
use Rattle.grid_model.specs.Schedules.{start_row}
use Rattle.run_tally.specs.Tallies.{TallyStart}
use Rattle.sent_list.specs.SentLists.{SentStart}
use Rattle.grid_hosts.specs.declared.hosts.Host.{Host}
use Rattle.grid_hosts.specs.declared.openings.Restarted.{Restarted}
use Rattle.grid_hosts.specs.declared.openings.Restarted.TheVariants as restarted
use Rattle.grid_hosts.specs.Hosts.{HasRestarted, IsNew}
use Rattle.host_laws.specs.Starts.{AreNew}
use Rattle.grid_world.specs.declared.worlds.World.{World}
use Rattle.grid_world.specs.Follows.{Follows}
use Rattle.grid_world.specs.Worlds.{HasMoved, HasRoom}

-- this is the act of an opening of n that ended so
abbrev pub IsOpenedAct : NodeId → Restarted → Act → Type 0
IsOpenedAct n (restarted.Up f) a = a ≡ act.Up n f
IsOpenedAct n restarted.StillDown a = a ≡ act.StillDown n
IsOpenedAct n restarted.Memory a = ⊥

module _ {D : Type 0} (g : Ghosts D) where
  -- these begin with two new disks for each of so many nodes
  pub data AreDisksOf : ℕ → List D → Type 0 where
    none : (disks : List D) → AreDisksOf 0 disks
    more : (n : ℕ) (first second : D) (disks : List D) → AreNew g first second → AreDisksOf n disks
        → AreDisksOf (n + 1) (first ∷ second ∷ disks)

module _ {D : Type 0} {g : Ghosts D} where
  -- These hosts are new ones over these disks, two for each, numbered from n on; the rest are left.
  pub data AreSeated : ℕ → List D → List (Host D g) → List D → Type 0 where
    none : (n : ℕ) (disks : List D) → AreSeated n disks [] disks
    more : (n : ℕ) (first second : D) (disks : List D) (h : Host D g) (hosts : List (Host D g)) (rest : List D)
        → IsNew n first second h → AreSeated (n + 1) disks hosts rest
        → AreSeated n (first ∷ second ∷ disks) (h ∷ hosts) rest

  -- the world of a document over these disks, in which no node was opened
  pub record IsFresh (d : DocumentData) (given : List D) (w : World D g) : Type 0 where
    pub one : IsOne d
    pub disks : AreDisksOf g d.cluster.nodes given
    pub seated : AreSeated 1 given w.hosts.items w.rest.items
    pub nodes : length w.hosts.items ≡ d.cluster.nodes
    pub sent : w.network ≡ SentStart
    pub tally : w.tally ≡ TallyStart d
    pub room : HasRoom w

  -- Whatever disks a fresh world stands on: its nodes were opened, in rising order, with these acts, and it follows the
  -- run behind them.
  abbrev pub Opens : DocumentData → World D g → World D g → List Act → Type 0
  Opens d w w' acts =
      (given : List D) → IsFresh d given w
      → (opens : NodeId → Bool) × (acts ≡ start_row d.cluster.nodes opens) × Follows d 0 acts given w'

  -- node n was opened, with this act
  pub record HasOpenedOne (d : DocumentData) (n : NodeId) (w w' : World D g) (a : Act) : Type 0 where
    pub restarted : Restarted
    pub moved : HasMoved n (λ x y. HasRestarted d.cluster x y restarted) w w'
    pub act : IsOpenedAct n restarted a
