-- The nodes of a run follow it: each stands behind its acts, which are lawful so far by the counts of the disks.
use Rattle.std.specs.Prelude.{◌≡◌, ℕ, ◌-◌, ◌≤◌, List, [], ◌∷◌, length, drop, slice_get, Some}
use Rattle.score_base.specs.declared.ids.NodeId.{NodeId}
use Rattle.score_disk.specs.declared.disk.Disk.{Ghosts}
use Rattle.grid_model.specs.declared.acts.Act.{Act}
use Rattle.grid_model.specs.declared.items.Item.{Item}
use Rattle.grid_model.specs.Cuts.{events}
use Rattle.grid_model.specs.Documents.{DocumentData}
use Rattle.grid_model.specs.Histories.{after}
use Rattle.disk_laws.specs.SoFar.{LawfulSoFar, IsJointRise}
use Rattle.disk_laws.specs.Holds.{first_of_node, second_of_node}
use Rattle.grid_hosts.specs.declared.hosts.Host.{Host}
use Rattle.host_laws.specs.Standing.{HostStands, first_disk, second_disk, generation_in}

-- this item is the next event of the document behind the first e
abbrev pub IsNext : DocumentData → ℕ → Item → Type 0
IsNext d e i = (later : List Item) × (drop e (events d) ≡ i ∷ later)

module _ {D : Type 0} {g : Ghosts D} where
  -- Node n stands behind these acts, and the counts of its disks rose by so much since they were given. The generation of
  -- its live file is at most the number of events.
  pub record HostFollows (d : DocumentData) (e : ℕ) (h : List Act) (given : ℕ → ℕ) (rise : ℕ) (n : NodeId) (x : Host D g) :
      Type 0 where
    pub stands : HostStands d (after [] h) n x
    pub rises : IsJointRise (given (first_of_node n)) (given (second_of_node n)) (g.own (first_disk x.place))
        (g.own (second_disk x.place)) rise
    pub generation : generation_in x.place ≤ e

  -- The first e events of the document were played, with these acts. They are lawful so far by the counts of the disks
  -- since these were given; and each node, in its place, stands behind them.
  pub record HostsFollow (d : DocumentData) (e : ℕ) (h : List Act) (given : ℕ → ℕ) (hosts : List (Host D g)) : Type 0
    where
      pub rise : NodeId → ℕ
      pub lawful : LawfulSoFar d e h rise
      pub nodes : length hosts ≡ d.cluster.nodes
      pub host : (n : NodeId) → 1 ≤ n → n ≤ d.cluster.nodes
          → (x : Host D g) × (slice_get hosts (n - 1) ≡ Some x) × HostFollows d e h given (rise n) n x
