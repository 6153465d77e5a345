-- What a step of a node leaves: three cases.
use Rattle.std.specs.Prelude.{◌≡◌, ◌⊎◌, ℕ, ◌+◌, ◌-◌, ◌≤◌, ◌^◌, ◌==◌, not, Bool, true, false, List, [], ◌∷◌, ◌++◌, Option, Some, None, if◌then◌else◌}
use Rattle.score_base.specs.declared.ids.NodeId.{NodeId}
use Rattle.score_base.specs.declared.records.Record.{Record}
use Rattle.score_disk.specs.declared.disk.Disk.{Ghosts}
use Rattle.journal_words.specs.Participants.{written}
use Rattle.journal_words.specs.Small.{small_in_time}
use Rattle.node_journal.specs.declared.pair.Pair.{Pair}
use Rattle.node_journal.specs.Pairs.{in_order, LeavesPair, LeavesPairOneOf, LeavesLog, LeavesLogOr}
use Rattle.node_journal.specs.Log.{generation}
use Rattle.node_journal.specs.Torn.{LeavesVersion}
use Rattle.node_journal.specs.PairDisks.{TellsBoth, IsPairAtRest, list_of}
use Rattle.node_journal.specs.Spending.{Spent, Halted, Untouched}
use Rattle.grid_model.specs.declared.acts.Head.{Head}
use Rattle.grid_model.specs.declared.acts.Head.TheVariants as head
use Rattle.grid_model.specs.declared.events.Event.{Event}
use Rattle.grid_model.specs.declared.events.Event.TheVariants as event
use Rattle.grid_model.specs.declared.events.Out.{Out}
use Rattle.grid_model.specs.NextViews.{next_view}
use Rattle.grid_model.specs.Rows.{outs_of}
use Rattle.grid_model.specs.Views.{View}
use Rattle.grid_store.specs.Given.{IsSame}
use Rattle.node_core.specs.declared.nodes.Node.{Node}
use Rattle.node_core.specs.declared.ends.Stepped.{Stepped}
use Rattle.node_core.specs.declared.ends.Stepped.TheVariants.{Done, Down, Memory}
use Rattle.node_core.specs.Heads.{head_of}
use Rattle.node_core.specs.Shows.{Shows}

-- the last generation that a file can have: a node whose live file has it is not compacted
abbrev pub last_generation : ℕ
last_generation = 2 ^ 64 - 1

-- what a node gives at an event, by its number, the generation of its live file and its view
abbrev pub row_of : NodeId → ℕ → View → Event → List Out
row_of n gen v event.Compact = if gen == last_generation then [] else outs_of n v event.Compact
row_of n gen v e = outs_of n v e

module _ {D : Type 0} {g : Ghosts D} where
  -- the node shows this view
  abbrev pub ShowsView : Node D g → View → Type 0
  ShowsView node v = Shows node.store node.waiting.reads node.desk v

  -- ---- the disks

  -- neither disk was written
  pub record IsUnwritten (p q : Pair D g) : Type 0 where
    pub list : list_of q ≡ list_of p
    pub live : Untouched g p.live.disk q.live.disk
    pub other : q.other ≡ p.other
    pub second : q.second ≡ p.second
    pub number : q.number ≡ p.number

  -- neither disk was written; there may be more room on both
  pub record IsKept (p q : Pair D g) : Type 0 where
    pub list : list_of q ≡ list_of p
    pub live : Untouched g p.live.disk q.live.disk
    pub other : Untouched g p.other q.other
    pub second : q.second ≡ p.second
    pub number : q.number ≡ p.number

  -- the record was written on the live disk, with four calls
  pub record IsAppended (x : Record) (p q : Pair D g) : Type 0 where
    pub list : list_of q ≡ list_of p ++ x ∷ []
    pub rest : TellsBoth p → IsPairAtRest q (list_of q)
    pub live : Spent g 4 p.live.disk q.live.disk
    pub other : q.other ≡ p.other
    pub second : q.second ≡ p.second
    pub number : q.number ≡ p.number

  -- the list was made small into the other disk, with six or eight calls, and that disk is the live one now
  pub record IsCompacted (p q : Pair D g) : Type 0 where
    pub list : list_of q ≡ small_in_time (list_of p)
    pub rest : TellsBoth p → IsPairAtRest q (list_of q)
    pub live : Spent g 6 p.other q.live.disk ⊎ Spent g 8 p.other q.live.disk
    pub other : q.other ≡ p.live.disk
    pub second : q.second ≡ not p.second
    pub number : q.number ≡ p.number + 1

  -- the record of an event, where there is one, is the one that was written
  abbrev pub IsWritten : Option Record → Pair D g → Pair D g → Type 0
  IsWritten None p q = IsUnwritten p q
  IsWritten (Some x) p q = IsAppended x p q

  -- the pair was compacted, unless its live file has the last generation
  abbrev pub IsTurned : Bool → Pair D g → Pair D g → Type 0
  IsTurned true p q = IsUnwritten p q
  IsTurned false p q = IsCompacted p q

  -- ---- the three cases

  -- the node shows the same views: its store, its held reads and its desk are as before but for room
  pub record IsSameNode (old new : Node D g) : Type 0 where
    pub store : IsSame old.store new.store
    pub held : new.waiting.reads ≡ old.waiting.reads
    pub desk : new.desk ≡ old.desk

  -- the record of an event, where there is one, stands in the journal and on the disks
  pub record Records (x : Option Record) (old new : Node D g) : Type 0 where
    pub journal : new.store.journal ≡ written x old.store.journal
    pub disks : IsWritten x old.pair new.pair

  -- a compaction changes the disks alone, and at the last generation nothing
  pub record Compacts (last : Bool) (old new : Node D g) : Type 0 where
    pub same : IsSameNode old new
    pub disks : IsTurned last old.pair new.pair

  -- what an event leaves of the journal and of the disks
  abbrev pub Moves : Event → Node D g → Node D g → Type 0
  Moves event.Compact old new = Compacts (old.pair.number == last_generation) old new
  Moves e old new = (x : Option Record) × Records x old new

  -- The event was played: the outs are the row of each view that the node shows, and it shows the next one.
  pub record IsDone (old : Node D g) (e : Event) (new : Node D g) (outs : List Out) : Type 0 where
    pub node : new.store.node ≡ old.store.node
    pub cluster : new.store.cluster ≡ old.store.cluster
    pub row : (v : View) → ShowsView old v → outs ≡ row_of old.store.node old.pair.number v e
    pub view : (v : View) → ShowsView old v → ShowsView new (next_view old.store.node v e outs)
    pub moves : Moves e old new

  -- What a stop leaves where the record x was being written: each pair of images has the list before it, alone or
  -- with the record behind it, and alone where the fuse stopped one of the first two calls; and each image of the live
  -- disk has its generation.
  pub record IsCut (p : Pair D g) (x : Record) (first second : D) : Type 0 where
    pub images : TellsBoth p → LeavesPairOneOf (list_of p) (list_of p ++ x ∷ []) (g.file first) (g.file second)
    pub early : TellsBoth p → (k : ℕ) → g.left p.live.disk ≡ Some k → k ≤ 2
        → LeavesPair (list_of p) (g.file first) (g.file second)
    pub version : TellsBoth p → LeavesVersion (generation (g.file p.live.disk).seen)
        (g.file (in_order p.second (λ live _. live) first second))
    pub other : in_order p.second (λ _ other. other) first second ≡ p.other
    pub halted : Halted g 4 p.live.disk (in_order p.second (λ live _. live) first second)

  -- The node stopped while the record of its row was being written.
  pub record StoppedAt (old : Node D g) (e : Event) (x : Record) (first second : D) : Type 0 where
    pub row : (v : View) → ShowsView old v
        → (next_view old.store.node v e (outs_of old.store.node v e)).journal ≡ x ∷ old.store.journal
    pub disks : IsCut old.pair x first second

  -- The node stopped in a compaction: each pair of images has the list before it or what a compaction keeps of it,
  -- and the list before it where the fuse stopped one of the first four calls; what it keeps has the next generation.
  pub record StoppedSmall (old : Node D g) (first second : D) : Type 0 where
    pub images : TellsBoth old.pair
        → LeavesPairOneOf (list_of old.pair) (small_in_time (list_of old.pair)) (g.file first) (g.file second)
    pub early : TellsBoth old.pair → (k : ℕ) → g.left old.pair.other ≡ Some k → k ≤ 4
        → LeavesPair (list_of old.pair) (g.file first) (g.file second)
    pub stopped_log : TellsBoth old.pair → LeavesLogOr (list_of old.pair) old.pair.number
        (small_in_time (list_of old.pair)) (old.pair.number + 1) (g.file first) (g.file second)
    pub early_log : TellsBoth old.pair → (k : ℕ) → g.left old.pair.other ≡ Some k → k ≤ 4
        → LeavesLog (list_of old.pair) old.pair.number (g.file first) (g.file second)
    pub live : in_order old.pair.second (λ live _. live) first second ≡ old.pair.live.disk
    pub halted : Halted g 8 old.pair.other (in_order old.pair.second (λ _ other. other) first second)

  -- the node stopped at this head
  abbrev pub IsDown : Node D g → Event → D → D → Head → Type 0
  IsDown old e first second h =
      ((x : Record) × (h ≡ head_of x) × StoppedAt old e x first second)
      ⊎ ((e ≡ event.Compact) × (h ≡ head.Compact) × StoppedSmall old first second)

  -- nothing was done: the node and its disks are as before but for room
  pub record IsUndone (old new : Node D g) : Type 0 where
    pub same : IsSameNode old new
    pub pair : IsKept old.pair new.pair

  -- what a step leaves
  abbrev pub IsStepped : Node D g → Event → Stepped D g → Type 0
  IsStepped old e (Done new outs) = IsDone old e new outs.items
  IsStepped old e (Down first second h) = IsDown old e first second h
  IsStepped old e (Memory new) = IsUndone old new
