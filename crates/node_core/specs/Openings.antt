-- What an opening of a node leaves.
use Rattle.std.specs.Prelude.{◌≡◌, ◌⊎◌, ℕ, ◌<◌, ◌≤◌, ◌∷◌, [], true, false, List, length, IsTrue, Ok, Err}
use Rattle.score_base.specs.declared.ids.NodeId.{NodeId}
use Rattle.score_base.specs.declared.records.Record.{Record}
use Rattle.placement.specs.Clusters.{ClusterData}
use Rattle.score_disk.specs.Files.{synced, written}
use Rattle.score_disk.specs.declared.disk.Disk.{Ghosts}
use Rattle.grid_store.specs.Replay.{IsReplayed, IsStrange}
use Rattle.presumed_abort.specs.Views.{opened_view}
use Rattle.node_journal.specs.declared.pair.Pair.{Pair}
use Rattle.node_journal.specs.Pairs.{pair_log, second_lives}
use Rattle.node_journal.specs.PairDisks.{PairFailed, IsPairAtRest, first_of, last_of, list_of}
use Rattle.node_journal.specs.Spending.{Halted, Untouched, Opened as OpenedDisk}
use Rattle.node_journal.specs.Torn.{LeavesAsBefore}
use Rattle.node_core.specs.declared.nodes.Node.{Node}
use Rattle.node_core.specs.declared.ends.Opened.{Opened}
use Rattle.node_core.specs.declared.ends.Opened.TheVariants.{Up, Failed, NotJournal, Strange, Memory}
use Rattle.node_core.specs.Shows.{Shows}

module _ {D : Type 0} (g : Ghosts D) where
  -- both disks tell their files
  abbrev pub TellBoth : D → D → Type 0
  TellBoth first second = IsTrue (g.tells first) × IsTrue (g.tells second)

  -- at most one of the disks was written, and that one was made anew with two calls
  abbrev pub AreOpened : D → D → D → D → Type 0
  AreOpened first second first' second' =
      (OpenedDisk g first first' × Untouched g second second')
      ⊎ (Untouched g first first' × OpenedDisk g second second')

  -- The node is up: it shows the view of the records of the live file, each of which fits those before it, and nothing
  -- that a stop forgets.
  pub record IsUp (n : NodeId) (c : ClusterData) (first second : D) (node : Node D g) : Type 0 where
    pub store : IsReplayed c n (list_of node.pair) node.store
    pub view : Shows node.store node.waiting.reads node.desk (opened_view c node.store.journal)
    pub log : TellBoth first second → pair_log (g.file first).seen (g.file second).seen ≡ Ok (list_of node.pair)
    pub rest : TellBoth first second → IsPairAtRest node.pair (list_of node.pair)
    pub disks : AreOpened first second (first_of node.pair) (last_of node.pair)
    pub first_only : TellBoth first second
        → OpenedDisk g first (first_of node.pair) × Untouched g second (last_of node.pair)
    pub kept : TellBoth first second
        → (second_lives (g.file first).seen (g.file second).seen ≡ true) ⊎ (2 < length (g.file first).seen)
        → Untouched g first (first_of node.pair) × Untouched g second (last_of node.pair)
    pub anew : TellBoth first second → second_lives (g.file first).seen (g.file second).seen ≡ false
        → length (g.file first).seen ≤ 2
        → g.file (first_of node.pair) ≡ synced (written 0 (1 ∷ 0 ∷ []) (g.file first))

  -- a device call failed: a file that was being made anew has at most two bytes, else nothing was written
  pub record HasFailed (first second first' second' : D) : Type 0 where
    pub halted : (Halted g 2 first first' × Untouched g second second') ⊎ (Untouched g first first' × Halted g 2 second second')
    pub images : TellBoth first second
        → LeavesAsBefore (g.file first) (g.file first') × (g.file second' ≡ g.file second)
    pub failed : TellBoth first second → PairFailed g first second first' second'

  -- the live file is no gate log, from this place on
  pub record IsNotJournal (first second first' second' : D) (at : ℕ) : Type 0 where
    pub first_kept : Untouched g first first'
    pub second_kept : Untouched g second second'
    pub is : TellBoth first second → pair_log (g.file first).seen (g.file second).seen ≡ Err at

  -- the record at place i of the live file is the first that does not fit those before it
  pub record HasStrange (n : NodeId) (c : ClusterData) (first second first' second' : D) (i : ℕ) : Type 0 where
    pub records : List Record
    pub log : TellBoth first second → pair_log (g.file first).seen (g.file second).seen ≡ Ok records
    pub strange : IsStrange c n records i
    pub disks : AreOpened first second first' second'

  -- how an opening of node n of this cluster from these disks ends
  abbrev pub IsOpened : NodeId → ClusterData → D → D → Opened D g → Type 0
  IsOpened n c first second (Up node) = IsUp n c first second node
  IsOpened n c first second (Failed a b) = HasFailed first second a b
  IsOpened n c first second (NotJournal a b at) = IsNotJournal first second a b at
  IsOpened n c first second (Strange a b i) = HasStrange n c first second a b i
  IsOpened n c first second (Memory a b) = AreOpened first second a b

  -- how the replay of the records of an opened pair ends
  abbrev pub IsReplayedAs : NodeId → ClusterData → List Record → Pair D g → Opened D g → Type 0
  IsReplayedAs n c rs p (Up node) =
      IsReplayed c n rs node.store
      × Shows node.store node.waiting.reads node.desk (opened_view c node.store.journal)
      × (node.pair ≡ p)
  IsReplayedAs n c rs p (Failed a b) = ⊥
  IsReplayedAs n c rs p (NotJournal a b at) = ⊥
  IsReplayedAs n c rs p (Strange a b i) = IsStrange c n rs i × (a ≡ first_of p) × (b ≡ last_of p)
  IsReplayedAs n c rs p (Memory a b) = (a ≡ first_of p) × (b ≡ last_of p)
