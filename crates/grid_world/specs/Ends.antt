-- What a world gives up.
use Rattle.std.specs.Prelude.{◌≡◌, List, [], ◌∷◌, ◌++◌}
use Rattle.score_disk.specs.declared.disk.Disk.{Ghosts}
use Rattle.grid_hosts.specs.declared.hosts.Host.{Host}
use Rattle.grid_hosts.specs.Hosts.{EndsAt}
use Rattle.grid_world.specs.declared.worlds.World.{World}

module _ {D : Type 0} {g : Ghosts D} where
  -- the disks of these hosts, two for each, in order
  pub data AreDisks : List (Host D g) → List D → Type 0 where
    none : AreDisks [] []
    more : (h : Host D g) (hosts : List (Host D g)) (first second : D) (disks : List D) → EndsAt h.place first second
        → AreDisks hosts disks → AreDisks (h ∷ hosts) (first ∷ second ∷ disks)

  -- behind these disks stand those of the hosts
  pub record AreGivenUp (hosts : List (Host D g)) (old new : List D) : Type 0 where
    pub disks : List D
    pub are : AreDisks hosts disks
    pub behind : new ≡ old ++ disks

  -- the disks of the nodes, two for each, and behind them those that are no node's
  pub record HasEnded (w : World D g) (disks : List D) : Type 0 where
    pub of_nodes : List D
    pub are : AreDisks w.hosts.items of_nodes
    pub all : disks ≡ of_nodes ++ w.rest.items
