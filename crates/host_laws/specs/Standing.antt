-- What stands of a node of a run behind its acts: a node that is up shows the view behind them, one that is down can be
-- opened again; and its disks hold its list.
use Rattle.std.specs.Prelude.{◌≡◌, ℕ, true, false, is_some, List, length, reverse, Option, Some, None, IsTrue}
use Rattle.score_base.specs.declared.ids.NodeId.{NodeId}
use Rattle.score_disk.specs.declared.disk.Disk.{Ghosts}
use Rattle.journal_words.specs.Small.{AreAlike}
use Rattle.node_journal.specs.PairDisks.{TellsBoth, first_of, last_of, list_of}
use Rattle.grid_model.specs.declared.acts.Act.{Act}
use Rattle.grid_model.specs.declared.acts.Head.{Head}
use Rattle.grid_model.specs.declared.acts.Head.TheVariants as head
use Rattle.grid_model.specs.Documents.{DocumentData}
use Rattle.grid_model.specs.Disks.{disklog, is_compacting}
use Rattle.grid_model.specs.Nodes.{node, journal}
use Rattle.grid_model.specs.Views.{view}
use Rattle.node_core.specs.declared.nodes.Node.{Node}
use Rattle.node_core.specs.Steps.{ShowsView}
use Rattle.disk_laws.specs.Shown.{shown, seats}
use Rattle.disk_laws.specs.Seats.{StandsUp, StandsDown}
use Rattle.grid_hosts.specs.declared.falls.Fall.{Fall}
use Rattle.grid_hosts.specs.declared.hosts.Host.{Host}
use Rattle.grid_hosts.specs.declared.hosts.Place.{Place}
use Rattle.grid_hosts.specs.declared.hosts.Place.TheVariants.{Up, Down}

-- what is known of the last stop of n is what the acts say: nothing is in doubt, a compaction is, or a record is
abbrev pub SaysDoubt : DocumentData → List Act → NodeId → Option Head → Type 0
SaysDoubt d past n None = (is_compacting past n ≡ false) × ((node d past n).doubt ≡ None)
SaysDoubt d past n (Some head.Compact) = is_compacting past n ≡ true
SaysDoubt d past n (Some h) = (is_compacting past n ≡ false) × (is_some (node d past n).doubt ≡ true)

module _ {D : Type 0} (g : Ghosts D) where
  -- The disks of n, which is down, hold its log; what was known when it went down is its list, the generation of its live
  -- file and what was in doubt.
  pub record FallStands (d : DocumentData) (past : List Act) (n : NodeId) (first second : D) (fall : Fall) : Type 0
    where
      pub tells_first : IsTrue (g.tells first)
      pub tells_second : IsTrue (g.tells second)
      pub disks : StandsDown d past n fall.generation (shown g first) (shown g second)
      pub count : fall.count ≡ length (disklog d past n)
      pub doubt : SaysDoubt d past n fall.head

module _ {D : Type 0} {g : Ghosts D} where
  -- The node is n and shows the view behind these acts, but that its journal may be another list, which is alike; its
  -- disks hold the disk list of n.
  pub record NodeStands (d : DocumentData) (past : List Act) (n : NodeId) (x : Node D g) : Type 0 where
    pub number : x.store.node ≡ n
    pub cluster : x.store.cluster ≡ d.cluster
    pub alike : AreAlike x.store.journal (journal d past n)
    pub shows : ShowsView x (record (view d past n) { journal = x.store.journal })
    pub list : list_of x.pair ≡ reverse (disklog d past n)
    pub tells : TellsBoth x.pair
    pub disks : StandsUp d past n x.pair.number (seats x.pair)

  -- n stands so behind these acts
  abbrev pub Stands : DocumentData → List Act → NodeId → Place D g → Type 0
  Stands d past n (Up x) = NodeStands d past n x
  Stands d past n (Down first second fall) = FallStands g d past n first second fall

  -- n is the node of a host that stands so
  pub record HostStands (d : DocumentData) (past : List Act) (n : NodeId) (h : Host D g) : Type 0 where
    pub id : h.id ≡ n
    pub place : Stands d past n h.place

  -- the first and the second disk of a node that stands so
  abbrev pub first_disk : Place D g → D
  first_disk (Up x) = first_of x.pair
  first_disk (Down first second fall) = first

  abbrev pub second_disk : Place D g → D
  second_disk (Up x) = last_of x.pair
  second_disk (Down first second fall) = second

  -- the generation of the live file of a node that stands so, or that it had when the node went down
  abbrev pub generation_in : Place D g → ℕ
  generation_in (Up x) = x.pair.number
  generation_in (Down first second fall) = fall.generation
