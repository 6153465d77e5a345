-- What each call leaves of a node of a run and of its two disks.
use Rattle.std.specs.Prelude.{◌≡◌, ℕ, Bool, true, false, nat_lt, List, [], length, reverse, Option, Some, None, IsTrue, Ok, if◌then◌else◌}
use Rattle.score_base.specs.declared.ids.NodeId.{NodeId}
use Rattle.score_base.specs.declared.records.Record.{Record}
use Rattle.placement.specs.Clusters.{ClusterData}
use Rattle.score_disk.specs.Files.{IsCrash, IsSettled}
use Rattle.score_disk.specs.declared.disk.Disk.{Ghosts}
use Rattle.journal_words.specs.Journals.{all_fit}
use Rattle.node_journal.specs.Pairs.{pair_log}
use Rattle.node_journal.specs.PairDisks.{first_of, last_of, list_of}
use Rattle.grid_model.specs.declared.acts.Flag.{Flag}
use Rattle.grid_model.specs.declared.acts.Flag.TheVariants as flag
use Rattle.grid_model.specs.declared.acts.Head.{Head}
use Rattle.grid_model.specs.declared.acts.Head.TheVariants as head
use Rattle.grid_model.specs.declared.events.Event.{Event}
use Rattle.grid_model.specs.declared.events.Event.TheVariants as event
use Rattle.node_core.specs.declared.nodes.Node.{Node}
use Rattle.node_core.specs.Openings.{TellBoth, AreOpened, IsUp, HasFailed}
use Rattle.node_core.specs.Steps.{IsDone, IsDown, IsUndone}
use Rattle.grid_hosts.specs.declared.falls.Fall.{Fall}
use Rattle.grid_hosts.specs.declared.hosts.Host.{Host}
use Rattle.grid_hosts.specs.declared.hosts.Place.{Place}
use Rattle.grid_hosts.specs.declared.hosts.Place.TheVariants.{Up, Down}
use Rattle.grid_hosts.specs.declared.openings.Restarted.{Restarted}
use Rattle.grid_hosts.specs.declared.openings.Restarted.TheVariants as restarted
use Rattle.grid_hosts.specs.declared.steps.Ran.{Ran}
use Rattle.grid_hosts.specs.declared.steps.Ran.TheVariants.{Outs, Stopped, Memory}

-- ---- what an opening tells

-- what was in doubt was found, or is gone
abbrev pub found : Bool → Flag
found true = flag.Kept
found false = flag.Gone

-- A record was found where there are more records than before, a compaction where the generation is greater.
abbrev pub flag_at : Option Head → Fall → ℕ → ℕ → Flag
flag_at None fall count generation = flag.Untouched
flag_at (Some head.Compact) fall count generation = found (nat_lt fall.generation generation)
flag_at (Some h) fall count generation = found (nat_lt fall.count count)

-- what an opening with so many records and this generation tells, by what was known when the node went down
abbrev pub flag_told : Fall → ℕ → ℕ → Flag
flag_told fall count generation = flag_at fall.head fall count generation

-- ---- disks

module _ {D : Type 0} (g : Ghosts D) where
  -- the disk is what a crash leaves, and its fuse is not armed
  pub record IsCrashed (from now : D) : Type 0 where
    pub crash : IsTrue (g.tells from) → IsCrash (g.file from) (g.file now)
    pub tells : g.tells now ≡ g.tells from
    pub own : g.own now ≡ g.own from
    pub faults : g.faults now ≡ g.faults from
    pub left : g.left now ≡ None

  -- a fuse of a disk is armed with a number, or is not armed, and all else is as before
  pub record IsArmed (left : Option ℕ) (from now : D) : Type 0 where
    pub file : g.file now ≡ g.file from
    pub tells : g.tells now ≡ g.tells from
    pub own : g.own now ≡ g.own from
    pub left_is : g.left now ≡ left

  -- Node n of this cluster can be opened from these disks: they tell their files, which are settled, and the live one
  -- is a log whose records fit.
  pub record AreOpenable (n : NodeId) (c : ClusterData) (first second : D) : Type 0 where
    pub tell : TellBoth g first second
    pub first_settled : IsSettled (g.file first)
    pub second_settled : IsSettled (g.file second)
    pub records : List Record
    pub log : pair_log (g.file first).seen (g.file second).seen ≡ Ok records
    pub fit : all_fit c n (reverse records) ≡ true

  -- a device call failed, and both disks are crashed
  pub record StaysDown (first second one two : D) : Type 0 where
    pub first_left : D
    pub second_left : D
    pub failed : HasFailed g first second first_left second_left
    pub first_is : IsCrashed first_left one
    pub second_is : IsCrashed second_left two

module _ {D : Type 0} {g : Ghosts D} where
  -- ---- where a node stands

  -- the node, where it is up
  abbrev pub node_in : Place D g → Option (Node D g)
  node_in (Up node) = Some node
  node_in (Down first second fall) = None

  abbrev pub is_standing : Place D g → Bool
  is_standing (Up node) = true
  is_standing (Down first second fall) = false

  -- the node is one of this cluster, where it is up
  abbrev pub CanStep : ClusterData → Place D g → Type 0
  CanStep c (Up node) = c ≡ node.store.cluster
  CanStep c (Down first second fall) = Unit {0}

  -- ---- crashes and fuses

  -- a node that was not up, over these two disks
  pub record IsNew (id : NodeId) (first second : D) (h : Host D g) : Type 0 where
    pub id_is : h.id ≡ id
    pub how : h.how ≡ 0
    pub place : h.place ≡ Down first second (record { head = None; count = 0; generation = 0 })

  -- what is known of a node that goes down at this head
  abbrev pub fall_of : Node D g → Option Head → Fall
  fall_of node h = record { head = h; count = length (list_of node.pair); generation = node.pair.number }

  -- both disks of a node that goes down are crashed
  pub record FallsTo (node : Node D g) (first second : D) (h : Option Head) (p : Place D g) : Type 0 where
    pub one : D
    pub two : D
    pub first_is : IsCrashed g first one
    pub second_is : IsCrashed g second two
    pub place : p ≡ Down one two (fall_of node h)

  -- a node that is up is crashed, and one that is down stays as it is
  abbrev pub Crashes : Place D g → Place D g → Type 0
  Crashes (Up node) p = FallsTo node (first_of node.pair) (last_of node.pair) None p
  Crashes (Down first second fall) p = p ≡ Down first second fall

  pub record HasCrashed (h now : Host D g) : Type 0 where
    pub id : now.id ≡ h.id
    pub how : now.how ≡ h.how
    pub place : Crashes h.place now.place

  -- both disks of the node have this fuse, and all else is as before
  pub record HasFuses (left : Option ℕ) (node now : Node D g) : Type 0 where
    pub store : now.store ≡ node.store
    pub waiting : now.waiting ≡ node.waiting
    pub desk : now.desk ≡ node.desk
    pub live : IsArmed g left node.pair.live.disk now.pair.live.disk
    pub other : IsArmed g left node.pair.other now.pair.other
    pub second : now.pair.second ≡ node.pair.second
    pub number : now.pair.number ≡ node.pair.number
    pub list : list_of now.pair ≡ list_of node.pair

  -- both disks have this fuse, whether the node is up or down
  abbrev pub IsFused : Option ℕ → Place D g → Place D g → Type 0
  IsFused left (Up node) (Up now) = HasFuses left node now
  IsFused left (Down first second fall) (Down one two fall') =
      IsArmed g left first one × IsArmed g left second two × (fall' ≡ fall)
  IsFused left p q = ⊥

  pub record HasArmed (k how : ℕ) (h now : Host D g) : Type 0 where
    pub id : now.id ≡ h.id
    pub how_is : now.how ≡ how
    pub place : IsFused (Some k) h.place now.place

  -- ---- an event

  -- the node stopped at this head, and its disks are crashed
  pub record HasStopped (node : Node D g) (e : Event) (h : Head) (p : Place D g) : Type 0 where
    pub first : D
    pub second : D
    pub down : IsDown node e first second h
    pub falls : FallsTo node first second (Some h) p

  -- how an event of a node that is up ends
  abbrev pub Runs : Node D g → Event → Place D g → Ran → Type 0
  Runs node e (Up now) (Outs outs) = IsDone node e now outs.items
  Runs node e p (Stopped h) = HasStopped node e h p
  Runs node e (Up now) Memory = IsUndone node now
  Runs node e p r = ⊥

  -- a node that is down gives nothing, and stays as it is
  abbrev pub RunsAt : Place D g → Event → Place D g → Ran → Type 0
  RunsAt (Up node) e p r = Runs node e p r
  RunsAt (Down first second fall) e p (Outs outs) = (p ≡ Down first second fall) × (outs.items ≡ [])
  RunsAt (Down first second fall) e p r = ⊥

  pub record HasRun (h : Host D g) (e : Event) (now : Host D g) (r : Ran) : Type 0 where
    pub id : now.id ≡ h.id
    pub how : now.how ≡ h.how
    pub runs : RunsAt h.place e now.place r

  -- ---- a compaction

  -- no fuse of a node that is up is armed, and all else is as before
  abbrev pub Disarms : Place D g → Place D g → Type 0
  Disarms (Up node) (Up now) = HasFuses None node now
  Disarms (Up node) p = ⊥
  Disarms (Down first second fall) p = p ≡ Down first second fall

  pub record HasDisarmed (h now : Host D g) : Type 0 where
    pub id : now.id ≡ h.id
    pub how : now.how ≡ h.how
    pub place : Disarms h.place now.place

  -- behind a compaction that went on no fuse is armed
  abbrev pub Settles : Ran → Host D g → Host D g → Type 0
  Settles (Outs outs) mid now = HasDisarmed mid now
  Settles r mid now = now ≡ mid

  -- a compaction is played as an event, and behind it no fuse is armed
  pub record HasCompacted (h now : Host D g) (r : Ran) : Type 0 where
    pub mid : Host D g
    pub run : HasRun h event.Compact mid r
    pub behind : Settles r mid now

  -- ---- an opening

  abbrev pub CanOpen : NodeId → ClusterData → Place D g → Type 0
  CanOpen n c (Up node) = Unit {0}
  CanOpen n c (Down first second fall) = AreOpenable g n c first second

  -- the node came up, and this is told of what was in doubt
  pub record ComesUp (n : NodeId) (c : ClusterData) (first second : D) (fall : Fall) (node : Node D g)
      (f : Flag) : Type 0 where
    pub up : IsUp g n c first second node
    pub flag : f ≡ flag_told fall (length (list_of node.pair)) node.pair.number

  -- how an opening from these disks ends
  abbrev pub Reopens : NodeId → ClusterData → D → D → Fall → Place D g → Restarted → Type 0
  Reopens n c first second fall (Up node) (restarted.Up f) = ComesUp n c first second fall node f
  Reopens n c first second fall (Down one two fall') restarted.StillDown = StaysDown g first second one two × (fall' ≡ fall)
  Reopens n c first second fall (Down one two fall') restarted.Memory = AreOpened g first second one two × (fall' ≡ fall)
  Reopens n c first second fall p r = ⊥

  -- a node that is up stays as it is
  abbrev pub ReopensAt : NodeId → ClusterData → Place D g → Place D g → Restarted → Type 0
  ReopensAt n c (Up node) p (restarted.Up f) = (p ≡ Up node) × (f ≡ flag.Untouched)
  ReopensAt n c (Up node) p r = ⊥
  ReopensAt n c (Down first second fall) p r = Reopens n c first second fall p r

  pub record HasRestarted (c : ClusterData) (h now : Host D g) (r : Restarted) : Type 0 where
    pub id : now.id ≡ h.id
    pub how : now.how ≡ h.how
    pub place : ReopensAt h.id c h.place now.place r

  -- ---- the end

  -- these two are the disks of a node that stands so
  abbrev pub EndsAt : Place D g → D → D → Type 0
  EndsAt (Up node) first second = (first ≡ first_of node.pair) × (second ≡ last_of node.pair)
  EndsAt (Down one two fall) first second = (first ≡ one) × (second ≡ two)
