-- What a world shows of the run of its document so far, and what an event makes of it.
use Rattle.std.specs.Prelude.{◌≡◌, ℕ, ◌+◌, ◌*◌, ◌<◌, ◌≤◌, List, [], ◌++◌, drop, length, slice_get, Option, Some, None}
use Rattle.score_disk.specs.declared.disk.Disk.{Ghosts}
use Rattle.grid_model.specs.declared.acts.Act.{Act}
use Rattle.grid_model.specs.declared.items.Item.{Item}
use Rattle.grid_model.specs.declared.items.Item.TheVariants as item
use Rattle.grid_model.specs.Documents.{DocumentData, IsOne}
use Rattle.grid_model.specs.Histories.{after}
use Rattle.grid_model.specs.Schedules.{Choice, row}
use Rattle.run_tally.specs.Tallies.{tally_of}
use Rattle.sent_list.specs.SentLists.{ShowsSent}
use Rattle.host_laws.specs.Follows.{IsNext, HostsFollow}
use Rattle.grid_world.specs.declared.worlds.World.{World}
use Rattle.grid_world.specs.Worlds.{HasRoom}

module _ {D : Type 0} (g : Ghosts D) where
  -- the count of a disk, where there is one
  abbrev pub own_in : Option D → ℕ
  own_in None = 0
  own_in (Some disk) = g.own disk

  -- the counts of these disks, by their places
  abbrev pub owns : List D → ℕ → ℕ
  owns disks m = own_in (slice_get disks m)

module _ {D : Type 0} {g : Ghosts D} where
  -- The world follows a run: the first e events of the document were played, with these acts, which are lawful so far by
  -- the counts of its disks since they were given; each node stands behind the acts; the messages and the tally are
  -- those of the acts. There are two disks for each node; those that are no node's are as they were given, and there is
  -- room to give all of them up.
  pub record Follows (d : DocumentData) (e : ℕ) (h : List Act) (given : List D) (w : World D g) : Type 0 where
    pub hosts : HostsFollow d e h (owns g given) w.hosts.items
    pub sent : ShowsSent w.network (after [] h)
    pub tally : w.tally ≡ tally_of d h
    pub seats : 2 * d.cluster.nodes ≤ length given
    pub rest : w.rest.items ≡ drop (2 * d.cluster.nodes) given
    pub room : HasRoom w

  -- The world follows some run of the document, of which this item is the next event; 50,000 events are the most.
  pub record CanPlay (d : DocumentData) (i : Item) (w : World D g) : Type 0 where
    pub one : IsOne d
    pub e : ℕ
    pub h : List Act
    pub given : List D
    pub follows : Follows d e h given w
    pub next : IsNext d e i
    pub few : e < 50000

  -- Whatever run the world follows, where this item is its next event: the acts are the row of the item, by what the disks
  -- did, and the world follows the run with them.
  abbrev pub Plays : DocumentData → Item → World D g → World D g → List Act → Type 0
  Plays d i w w' acts =
      (e : ℕ) (h : List Act) (given : List D) → IsOne d → Follows d e h given w → IsNext d e i → e < 50000
      → (c : Choice) × (acts ≡ row d (after [] h) i c) × Follows d (e + 1) (h ++ acts) given w'

  -- the world follows some run of the document, of which some item is the next event
  pub record CanPlaySome (d : DocumentData) (w : World D g) : Type 0 where
    pub item : Item
    pub can : CanPlay d item w

  -- Whatever run the world follows, where the row of its next event is that of a delivery of message m: the acts are that
  -- row, and the world follows the run with them.
  abbrev pub Delivers : DocumentData → ℕ → World D g → World D g → List Act → Type 0
  Delivers d m w w' acts =
      (i : Item) → ((past : List Act) (c : Choice) → ShowsSent w.network past → row d past i c ≡ row d past (item.Deliver m) c)
      → Plays d i w w' acts
