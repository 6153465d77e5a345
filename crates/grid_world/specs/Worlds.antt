-- What the parts of an event leave of a world.
use Rattle.std.specs.Prelude.{◌≡◌, ℕ, ◌+◌, ◌-◌, ◌*◌, ◌<◌, ◌≤◌, ◌^◌, Bool, true, false, List, [], ◌∷◌, ◌++◌, length, slice_get, slice_set, Option, Some, None, is_some, vec_capacity}
use Rattle.score_base.specs.declared.ids.NodeId.{NodeId}
use Rattle.score_base.specs.declared.ids.TxId.{TxId}
use Rattle.score_disk.specs.declared.disk.Disk.{Ghosts}
use Rattle.grid_model.specs.declared.acts.Act.{Act}
use Rattle.grid_model.specs.declared.acts.Act.TheVariants as act
use Rattle.grid_model.specs.declared.acts.Flag.{Flag}
use Rattle.grid_model.specs.declared.events.Event.{Event}
use Rattle.grid_model.specs.declared.voids.Void.{Void}
use Rattle.grid_model.specs.Voids.{voided}
use Rattle.journal_words.specs.Journals.{pending}
use Rattle.grid_model.specs.Documents.{DocumentData}
use Rattle.grid_model.specs.Histories.{sent}
use Rattle.grid_model.specs.NextViews.{Comes}
use Rattle.grid_model.specs.Schedules.{numbered}
use Rattle.count_laws.specs.Few.{IsFew}
use Rattle.node_core.specs.declared.nodes.Node.{Node}
use Rattle.node_core.specs.Links.{posts}
use Rattle.run_tally.specs.Phases.{losses_in}
use Rattle.run_tally.specs.Tallies.{tally_after}
use Rattle.sent_list.specs.SentLists.{SentData, with_sent}
use Rattle.grid_hosts.specs.declared.hosts.Host.{Host}
use Rattle.grid_hosts.specs.declared.steps.Ran.{Ran}
use Rattle.grid_hosts.specs.declared.steps.Ran.TheVariants.{Outs, Stopped, Memory}
use Rattle.grid_hosts.specs.Hosts.{CanOpen, HasRun, node_in, is_standing}
use Rattle.host_laws.specs.Standing.{HostStands, generation_in}
use Rattle.grid_world.specs.declared.worlds.World.{World}

-- these are the acts of an event of node n that ended so, and its messages were sent
abbrev pub IsTold : SentData → NodeId → Ran → SentData → List Act → Type 0
IsTold s n (Outs outs) s' acts =
    (acts ≡ numbered (length s.sent + 1) n outs.items) × (s' ≡ with_sent (posts n outs.items) s)
IsTold s n (Stopped h) s' acts = (acts ≡ act.Down n (Some h) ∷ []) × (s' ≡ s)
IsTold s n Memory s' acts = ⊥

-- there are numbers for the messages of an event that ended so
abbrev pub HasNumbers : SentData → NodeId → Ran → Type 0
HasNumbers s n (Outs outs) = length s.sent + length (posts n outs.items) + 1 < 2 ^ 32
HasNumbers s n r = Unit {0}

module _ {D : Type 0} {g : Ghosts D} where
  -- the host of node n
  abbrev pub host_at : World D g → NodeId → Option (Host D g)
  host_at w n = slice_get w.hosts.items (n - 1)

  -- the node of a host, where it is up
  abbrev pub node_of : Option (Host D g) → Option (Node D g)
  node_of None = None
  node_of (Some h) = node_in h.place

  -- node n is up
  abbrev pub is_up_in : World D g → NodeId → Bool
  is_up_in w n = is_some (node_of (host_at w n))

  -- there is room to give up all disks
  pub record HasRoom (w : World D g) : Type 0 where
    pub none : w.given_up.items ≡ []
    pub room : 2 * length w.hosts.items + length w.rest.items ≤ vec_capacity w.given_up

  -- the disks that are no node's, and the room, are as before
  pub record KeepsRest (w w' : World D g) : Type 0 where
    pub rest : w'.rest ≡ w.rest
    pub given_up : w'.given_up ≡ w.given_up

  -- the tally took these acts, and all else is as before
  pub record HasTold (d : DocumentData) (acts : List Act) (w w' : World D g) : Type 0 where
    pub hosts : w'.hosts ≡ w.hosts
    pub network : w'.network ≡ w.network
    pub tally : w'.tally ≡ tally_after d w.tally acts
    pub keeps : KeepsRest w w'

  -- the host of n went so from what it was, and the other hosts are as before
  pub record HasTurned (n : NodeId) (turn : Host D g → Host D g → Type 0) (w w' : World D g) : Type 0 where
    pub before : Host D g
    pub at : host_at w n ≡ Some before
    pub now : Host D g
    pub hosts : w'.hosts.items ≡ slice_set w.hosts.items (n - 1) now
    pub turned : turn before now
    pub tally : w'.tally ≡ w.tally
    pub keeps : KeepsRest w w'

  -- the host of n went so, and no message was sent
  pub record HasMoved (n : NodeId) (turn : Host D g → Host D g → Type 0) (w w' : World D g) : Type 0 where
    pub moved : HasTurned n turn w w'
    pub network : w'.network ≡ w.network

  -- Node n is up and stands behind acts behind which this event may come to it; few messages were sent.
  pub record CanRun (d : DocumentData) (n : NodeId) (ev : Event) (w : World D g) : Type 0 where
    pub past : List Act
    pub m : ℕ
    pub host : Host D g
    pub at : host_at w n ≡ Some host
    pub stands : HostStands d past n host
    pub up : is_standing host.place ≡ true
    pub comes : Comes d past n m ev
    pub e : ℕ
    pub generation : generation_in host.place ≤ e
    pub few : IsFew d past e
    pub short : e < 50000
    pub sent : w.network.sent ≡ sent past

  -- node n played an event, whose acts are these; it ended so
  pub record HasPlayed (n : NodeId) (turn : Host D g → Host D g → Ran → Type 0) (w w' : World D g) (acts : List Act) :
      Type 0 where
    pub ran : Ran
    pub moved : HasTurned n (λ x y. turn x y ran) w w'
    pub told : IsTold w.network n ran w'.network acts

  -- node n can be opened
  pub record CanReopen (d : DocumentData) (n : NodeId) (w : World D g) : Type 0 where
    pub host : Host D g
    pub at : host_at w n ≡ Some host
    pub opens : CanOpen n d.cluster host.place
    pub id : host.id ≡ n

  -- node n played an event behind these acts, and the tally took all
  pub record PlaysBehind (d : DocumentData) (first : List Act) (n : NodeId) (ev : Event) (w w' : World D g)
      (acts : List Act) : Type 0 where
    pub mid : World D g
    pub more : List Act
    pub played : HasPlayed n (λ x y r. HasRun x ev y r) w mid more
    pub told : HasTold d (first ++ more) mid w'
    pub are : acts ≡ first ++ more

  -- Node n played an event, and the tally took its acts; where there are none, the event is void for this reason.
  pub data OrVoid (d : DocumentData) (why : Void) (n : NodeId) (ev : Event) (w w' : World D g) (acts : List Act) :
      Type 0 where
    gave : (mid : World D g) → HasPlayed n (λ x y r. HasRun x ev y r) w mid acts → (acts ≡ [] → ⊥)
        → HasTold d acts mid w' → OrVoid d why n ev w w' acts
    void : (mid : World D g) → HasPlayed n (λ x y r. HasRun x ev y r) w mid [] → HasTold d (voided why) mid w'
        → acts ≡ voided why → OrVoid d why n ev w w' acts

  -- t is pending at node n, which is up
  abbrev pub is_pending_at : TxId → Option (Node D g) → Bool
  is_pending_at t None = false
  is_pending_at t (Some x) = is_some (pending t x.store.journal)

  abbrev pub is_pending_in : World D g → NodeId → TxId → Bool
  is_pending_in w n t = is_pending_at t (node_of (host_at w n))

  -- the acts of node n, which came up so: the losses are those that the tally tells behind that
  pub record HasRisen (d : DocumentData) (n : NodeId) (f : Flag) (w w' : World D g) (acts : List Act) : Type 0 where
    pub are : acts ≡ act.Up n f ∷ losses_in d (tally_after d w.tally (act.Up n f ∷ [])) n
    pub told : HasTold d acts w w'
