-- An event of a participant: what it gives, and what it leaves of a store, of the held reads and of the disks. The desk
-- has no part in it.
use Rattle.std.specs.Prelude.{◌≡◌, ◌++◌, List, ◌∷◌, Option}
use Rattle.score_base.specs.declared.records.Record.{Record}
use Rattle.score_disk.specs.declared.disk.Disk.{Ghosts}
use Rattle.journal_words.specs.Participants.{written}
use Rattle.node_journal.specs.declared.pair.Pair.{Pair}
use Rattle.grid_model.specs.declared.acts.Head.{Head}
use Rattle.grid_model.specs.declared.events.Event.{Event}
use Rattle.grid_model.specs.declared.events.Out.{Out}
use Rattle.grid_model.specs.declared.stories.HeldRead.{HeldRead}
use Rattle.grid_model.specs.NextViews.{next_view}
use Rattle.grid_model.specs.Rows.{outs_of}
use Rattle.grid_model.specs.Views.{View}
use Rattle.grid_store.specs.Given.{Given, IsSame}
use Rattle.presumed_abort.specs.declared.stands.Stand.{Stand}
use Rattle.score_base.specs.declared.ids.TxId.{TxId}
use Rattle.score_base.specs.declared.ids.NodeId.{NodeId}
use Rattle.std.specs.List.{flat_map}
use Rattle.snapshot_read.specs.declared.answers.Answer.{Answer}
use Rattle.snapshot_read.specs.Held.{HeldReads}
use Rattle.snapshot_read.specs.Outs.{serve_outs, Releases}
use Rattle.snapshot_read.specs.Views.{view_with}
use Rattle.node_core.specs.declared.ends.Stepped.{Stepped}
use Rattle.node_core.specs.declared.ends.Stepped.TheVariants as stepped
use Rattle.node_core.specs.declared.plays.Played.{Played}
use Rattle.node_core.specs.declared.plays.Played.TheVariants.{Done, Down, Memory}
use Rattle.node_core.specs.Heads.{head_of}
use Rattle.node_core.specs.Homes.{IsMadeOf}
use Rattle.node_core.specs.Steps.{IsWritten, IsUnwritten, IsCut}

-- the view has the records, the clock and the held reads of a node
abbrev pub IsViewOf : Given → List HeldRead → View → Type 0
IsViewOf s hs v = v ≡ view_with s hs v.desk v.acks

-- The outs are the row of the event, whatever the desk, and behind it the store and the held reads are those of the
-- next view.
pub record IsRowAt (s : Given) (hs : List HeldRead) (e : Event) (outs : List Out) (s' : Given) (hs' : List HeldRead)
    : Type 0 where
  pub node : s'.node ≡ s.node
  pub cluster : s'.cluster ≡ s.cluster
  pub row : (v : View) → IsViewOf s hs v → outs ≡ outs_of s.node v e
  pub view : (v : View) → IsViewOf s hs v → IsViewOf s' hs' (next_view s.node v e outs)

-- the record x is that of the row of the event, whatever the desk
abbrev pub IsRecordAt : Given → List HeldRead → Event → Record → Type 0
IsRecordAt s hs e x =
    (v : View) → IsViewOf s hs v → (next_view s.node v e (outs_of s.node v e)).journal ≡ x ∷ s.journal

-- the held reads that no pending proposal holds were served, and the others are held still
pub record IsReleased (s : Given) (n : NodeId) (hs : List HeldRead) (before : List Out) (left : List HeldRead)
    (behind : List Out) : Type 0 where
  pub answers : List Answer
  pub released : Releases s hs answers left
  pub outs : behind ≡ before ++ flat_map (serve_outs n) answers

module _ {D : Type 0} {g : Ghosts D} where
  -- the event was played: its outs are the row's, and its record, where there is one, is written
  pub record HasPlayed (s : Given) (hs : List HeldRead) (p : Pair D g) (e : Event) (s' : Given) (hs' : List HeldRead)
      (q : Pair D g) (outs : List Out) : Type 0 where
    pub row : IsRowAt s hs e outs s' hs'
    pub rec : Option Record
    pub journal : s'.journal ≡ written rec s.journal
    pub disks : IsWritten rec p q

  -- the node stopped while the record of the row was written; the store and the held reads are as before but for room
  pub record HasStopped (s : Given) (hs : List HeldRead) (p : Pair D g) (e : Event) (s' : Given) (hs' : List HeldRead)
      (first second : D) (h : Head) : Type 0 where
    pub rec : Record
    pub head : h ≡ head_of rec
    pub row : IsRecordAt s hs e rec
    pub disks : IsCut p rec first second
    pub store : IsSame s s'
    pub held : hs' ≡ hs

  -- nothing was done: all is as before but for room
  pub record IsUnplayed (s : Given) (hs : List HeldRead) (p : Pair D g) (s' : Given) (hs' : List HeldRead) (q : Pair D g)
      : Type 0 where
    pub store : IsSame s s'
    pub held : hs' ≡ hs
    pub pair : IsUnwritten p q

  -- how an event of a participant ends, which leaves this store and these held reads
  abbrev pub IsPlayed : Given → List HeldRead → Pair D g → Event → Given → List HeldRead → Played D g → Type 0
  IsPlayed s hs p e s' hs' (Done q outs) = HasPlayed s hs p e s' hs' q outs.items
  IsPlayed s hs p e s' hs' (Down first second h) = HasStopped s hs p e s' hs' first second h
  IsPlayed s hs p e s' hs' (Memory q) = IsUnplayed s hs p s' hs' q

  -- a step that ends so, with the node of these parts
  abbrev pub IsJoined : Given → HeldReads → List (TxId × Stand) → Played D g → Stepped D g → Type 0
  IsJoined s w ds (Done q outs) (stepped.Done node outs') = IsMadeOf s w ds q node × (outs' ≡ outs)
  IsJoined s w ds (Down a b h) (stepped.Down a' b' h') = (a' ≡ a) × (b' ≡ b) × (h' ≡ h)
  IsJoined s w ds (Memory q) (stepped.Memory node) = IsMadeOf s w ds q node
  IsJoined s w ds p r = ⊥
