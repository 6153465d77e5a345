-- A node of a run that was opened for the first time, from two new disks.
use Rattle.std.specs.Prelude.{◌≡◌, ℕ, Bool, true, false, None, IsTrue}
use Rattle.score_base.specs.declared.ids.NodeId.{NodeId}
use Rattle.placement.specs.Clusters.{ClusterData}
use Rattle.score_disk.specs.declared.disk.Disk.{Ghosts}
use Rattle.disk_laws.specs.Calls.{IsNew}
use Rattle.disk_laws.specs.Holds.{first_of_node, second_of_node}
use Rattle.disk_laws.specs.Shown.{shown}
use Rattle.grid_hosts.specs.declared.falls.Fall.{Fall}
use Rattle.grid_hosts.specs.declared.hosts.Host.{Host}
use Rattle.grid_hosts.specs.declared.openings.Restarted.{Restarted}
use Rattle.grid_hosts.specs.declared.openings.Restarted.TheVariants.{Up, StillDown}
use Rattle.grid_hosts.specs.Hosts.{Reopens}

-- what is known of a node that was never up
abbrev pub never_up : Fall
never_up = record { head = None; count = 0; generation = 0 }

-- the node came up, or a device call failed and it is not up
abbrev pub Ends : Bool → Restarted → Type 0
Ends true (Up f) = Unit {0}
Ends false StillDown = Unit {0}
Ends opens r = ⊥

module _ {D : Type 0} (g : Ghosts D) where
  -- both disks are new, and tell their files
  pub record AreNew (first second : D) : Type 0 where
    pub first_new : IsNew (shown g first)
    pub second_new : IsNew (shown g second)
    pub tells_first : IsTrue (g.tells first)
    pub tells_second : IsTrue (g.tells second)

module _ {D : Type 0} {g : Ghosts D} where
  -- Node n of this cluster was opened for the first time, from two new disks with these counts of faults, and it came up
  -- or did not.
  pub record HasStarted (c : ClusterData) (given : ℕ → ℕ) (n : NodeId) (opens : Bool) (x : Host D g) : Type 0 where
    pub first : D
    pub second : D
    pub new : AreNew g first second
    pub given_first : given (first_of_node n) ≡ g.own first
    pub given_second : given (second_of_node n) ≡ g.own second
    pub id : x.id ≡ n
    pub restarted : Restarted
    pub opened : Reopens n c first second never_up x.place restarted
    pub ends : Ends opens restarted
