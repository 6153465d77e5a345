-- A turn of the desk, played on the parts of a node.
use Rattle.std.specs.Prelude.{◌≡◌, Bool, true, false, List, ◌∷◌, Some}
use Rattle.score_base.specs.declared.ids.TxId.{TxId}
use Rattle.score_base.specs.declared.records.Record.{Record}
use Rattle.score_base.specs.declared.records.Record.TheVariants as record'
use Rattle.score_disk.specs.declared.disk.Disk.{Ghosts}
use Rattle.journal_words.specs.Journals.{fits, learnt}
use Rattle.journal_records.specs.Records.{CanEncode}
use Rattle.node_journal.specs.declared.pair.Pair.{Pair}
use Rattle.node_journal.specs.PairDisks.{HasPairRoom}
use Rattle.grid_model.specs.declared.events.Out.{Out}
use Rattle.grid_model.specs.declared.stories.HeldRead.{HeldRead}
use Rattle.grid_store.specs.Given.{Given, HasRoom, Room}
use Rattle.snapshot_read.specs.Held.{HeldReads}
use Rattle.presumed_abort.specs.declared.dues.DeskDue.{DeskDue}
use Rattle.presumed_abort.specs.declared.dues.DeskTurn.{DeskTurn}
use Rattle.presumed_abort.specs.declared.dues.DeskTurn.TheVariants as turn'
use Rattle.presumed_abort.specs.declared.stands.Stand.{Stand}
use Rattle.presumed_abort.specs.declared.stands.Stand.TheVariants as stand
use Rattle.presumed_abort.specs.Dues.{IsOf, change_due}
use Rattle.presumed_abort.specs.Stands.{standing}
use Rattle.presumed_abort.specs.Turns.{changed}
use Rattle.node_core.specs.declared.nodes.Node.{Node}
use Rattle.node_core.specs.declared.ends.Stepped.{Stepped}
use Rattle.node_core.specs.declared.ends.Stepped.TheVariants as stepped
use Rattle.node_core.specs.Heads.{head_of}
use Rattle.node_core.specs.Owning.{IsOwn}
use Rattle.node_core.specs.Steps.{IsAppended, IsCut}

-- a record that a home writes
abbrev pub is_of_home : Record → Bool
is_of_home (record'.Decided t f parts) = true
is_of_home (record'.Closed t) = true
is_of_home x = false

-- there is room for each record that a home writes
abbrev pub HasHomeRoom : Room → Type 0
HasHomeRoom room = (x : Record) → is_of_home x ≡ true → HasRoom x room

-- the store has taken in the record
pub record Admits (x : Record) (s s' : Given) : Type 0 where
  pub node : s'.node ≡ s.node
  pub cluster : s'.cluster ≡ s.cluster
  pub journal : s'.journal ≡ x ∷ s.journal
  pub next : s'.next ≡ learnt (Some x) s.next

module _ {D : Type 0} {g : Ghosts D} where
  -- the node is made of these parts
  pub record IsMadeOf (s : Given) (w : HeldReads) (stands : List (TxId × Stand)) (q : Pair D g) (node : Node D g)
      : Type 0 where
    pub store : node.store ≡ s
    pub waiting : node.waiting ≡ w
    pub desk : node.desk ≡ stands
    pub pair : node.pair ≡ q

  -- The record on which a change rests can be written: it fits the store, there is room for it, and behind it and the
  -- change the node keeps what it needs of its own view.
  pub record CanSettle (s : Given) (hs : List HeldRead) (desk : List (TxId × Stand)) (p : Pair D g) (d : DeskDue)
      (x : Record) : Type 0 where
    pub of : IsOf d.due x
    pub place : standing desk d.t ≡ Some stand.Away
    pub fit : fits s.cluster s.node s.journal x ≡ true
    pub room : HasRoom x s.room
    pub pair_room : HasPairRoom p
    pub encodes : CanEncode x
    pub own : (s' : Given) → Admits x s s' → IsOwn s' hs (changed d.t (change_due d.due) desk)

  -- the record is written, the store has it, and the change is made
  pub record HasSettled (s : Given) (w : HeldReads) (stands : List (TxId × Stand)) (p : Pair D g) (d : DeskDue)
      (x : Record) (node : Node D g) : Type 0 where
    pub store : Admits x s node.store
    pub waiting : node.waiting ≡ w
    pub desk : node.desk ≡ changed d.t (change_due d.due) stands
    pub disks : IsAppended x p node.pair

  -- how the writing of a record ends on which a change rests
  abbrev pub IsSettledAs : Given → HeldReads → List (TxId × Stand) → Pair D g → DeskDue → Record → Stepped D g → Type 0
  IsSettledAs s w desk p d x (stepped.Done node outs) = HasSettled s w desk p d x node × (outs.items ≡ d.outs.items)
  IsSettledAs s w desk p d x (stepped.Down first second h) = (h ≡ head_of x) × IsCut p x first second
  IsSettledAs s w desk p d x (stepped.Memory node) = ⊥

  -- what a turn of the desk needs of the parts of the node
  abbrev pub CanTurn : Given → List HeldRead → List (TxId × Stand) → Pair D g → DeskTurn → Type 0
  CanTurn s hs desk p (turn'.Outs outs) = IsOwn s hs desk
  CanTurn s hs desk p (turn'.Due d x) = CanSettle s hs desk p d x

  -- the node of these parts, with these outs
  abbrev pub GivesOuts : Given → HeldReads → List (TxId × Stand) → Pair D g → List Out → Stepped D g → Type 0
  GivesOuts s w desk p outs (stepped.Done node outs') = IsMadeOf s w desk p node × (outs'.items ≡ outs)
  GivesOuts s w desk p outs (stepped.Down first second h) = ⊥
  GivesOuts s w desk p outs (stepped.Memory node) = ⊥

  -- how a turn of the desk ends
  abbrev pub IsTurnedAs : Given → HeldReads → List (TxId × Stand) → Pair D g → DeskTurn → Stepped D g → Type 0
  IsTurnedAs s w desk p (turn'.Outs outs) r = GivesOuts s w desk p outs.items r
  IsTurnedAs s w desk p (turn'.Due d x) r = IsSettledAs s w desk p d x r
