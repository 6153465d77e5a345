-- Questions of a participant, and its answer to another part, are their rows; they leave the node as it is.
use Rattle.std.proofs.Common.{◌≡◌, Bool, true, false, List, [], ◌∷◌, Option, Some, None, refl, sym, subst, ◌∙◌}
use Rattle.std.specs.Prelude.{is_some, ◌&&◌, if◌then◌else◌}
use Rattle.std.proofs.lemmas.Bool.{and_from}
use Rattle.score_base.specs.declared.ids.TxId.{TxId}
use Rattle.score_base.specs.declared.ids.NodeId.{NodeId}
use Rattle.score_base.specs.declared.causes.Outcome.{Outcome}
use Rattle.score_disk.specs.declared.disk.Disk.{Ghosts}
use Rattle.journal_words.specs.Journals.{pending, ended, home_of, names_part}
use Rattle.node_journal.specs.declared.pair.Pair.{Pair}
use Rattle.grid_model.specs.declared.events.Event.{Event}
use Rattle.grid_model.specs.declared.events.Event.TheVariants as event
use Rattle.grid_model.specs.declared.events.Out.{Out}
use Rattle.grid_model.specs.declared.events.Out.TheVariants as out
use Rattle.grid_model.specs.declared.messages.Message.TheVariants as message
use Rattle.grid_model.specs.declared.stories.HeldRead.{HeldRead}
use Rattle.grid_model.specs.Fitness.{is_fit_at}
use Rattle.grid_model.specs.Stories.{is_small_node}
use Rattle.grid_model.specs.Advances.{to_node}
use Rattle.grid_model.specs.NextViews.{next_view}
use Rattle.grid_model.specs.Rows.{outs_of, peer_outs, ask_outs, ask_peer_outs}
use Rattle.grid_model.specs.Views.{View, Open, Stage}
use Rattle.grid_store.specs.Given.{Given, participant_in}
use Rattle.snapshot_read.specs.Views.{view_with}
use Rattle.presumed_abort.specs.Views.{is_at_desk}
use Rattle.node_core.specs.declared.nodes.Node.{Node}
use Rattle.node_core.specs.Steps.{IsUnwritten, IsDone}
use Rattle.node_core.specs.Plays.{IsViewOf, IsRowAt}
use Rattle.node_core.proofs.Rows.{fit-row, row-at}
use Rattle.node_core.proofs.PlainEvents.{IsPlainEvent}
use Rattle.node_core.proofs.Played.{done}

peer-fits : (s : Given) (x : NodeId) (t : TxId) → is_small_node s.journal s.next ≡ true → (stand : Stage)
    → is_fit_at s.node (participant_in s) stand x (message.AskPeer t) ≡ true
peer-fits s x t small stand = and_from (is_small_node s.journal s.next) true small refl

peer-view : (s : Given) (hs : List HeldRead) (x : NodeId) (t : TxId) (o : Option Outcome)
    (desk : TxId → Option Open) (acks : TxId → List NodeId)
    → IsViewOf s hs (next_view s.node (view_with s hs desk acks) (event.Deliver x (message.AskPeer t)) (peer_outs t x o))
peer-view s hs x t None desk acks = refl
peer-view s hs x t (Some o) desk acks = refl

pub peer-at : (s : Given) (hs : List HeldRead) (x : NodeId) (t : TxId) (outs : List Out)
    → is_small_node s.journal s.next ≡ true → outs ≡ peer_outs t x (ended t s.journal)
    → IsRowAt s hs (event.Deliver x (message.AskPeer t)) outs s hs
peer-at s hs x t outs small is =
    row-at s hs (event.Deliver x (message.AskPeer t)) outs s hs refl refl
    (λ v at. is ∙ sym (fit-row s hs x (message.AskPeer t) v at (peer-fits s x t small)))
    (λ desk acks.
    subst (λ os. IsViewOf s hs (next_view s.node (view_with s hs desk acks) (event.Deliver x (message.AskPeer t)) os))
    (sym is) (peer-view s hs x t (ended t s.journal) desk acks))

ask-view : (s : Given) (hs : List HeldRead) (t : TxId) (b : Bool) (home : Option NodeId)
    (desk : TxId → Option Open) (acks : TxId → List NodeId)
    → IsViewOf s hs (next_view s.node (view_with s hs desk acks) (event.Ask t)
    (if b then to_node home (message.Ask t) else []))
ask-view s hs t true None desk acks = refl
ask-view s hs t true (Some m) desk acks = refl
ask-view s hs t false home desk acks = refl

pub ask-at : (s : Given) (hs : List HeldRead) (t : TxId) (outs : List Out) → outs ≡ ask_outs (participant_in s) t
    → IsRowAt s hs (event.Ask t) outs s hs
ask-at s hs t outs is =
    row-at s hs (event.Ask t) outs s hs refl refl
    (λ v at. (let P : View → Type 0 = λ w. outs ≡ outs_of s.node w (event.Ask t) in subst P (sym at) is))
    (λ desk acks.
    subst (λ os. IsViewOf s hs (next_view s.node (view_with s hs desk acks) (event.Ask t) os)) (sym is)
    (ask-view s hs t (is_some (pending t s.journal)) (home_of t s.journal) desk acks))

ask-part-view : (s : Given) (hs : List HeldRead) (t : TxId) (m : NodeId) (b : Bool)
    (desk : TxId → Option Open) (acks : TxId → List NodeId)
    → IsViewOf s hs (next_view s.node (view_with s hs desk acks) (event.AskPeer t m)
    (if b then out.Send m (message.AskPeer t) ∷ [] else []))
ask-part-view s hs t m true desk acks = refl
ask-part-view s hs t m false desk acks = refl

pub ask-part-at : (s : Given) (hs : List HeldRead) (t : TxId) (m : NodeId) (outs : List Out)
    → outs ≡ ask_peer_outs (participant_in s) t m → IsRowAt s hs (event.AskPeer t m) outs s hs
ask-part-at s hs t m outs is =
    row-at s hs (event.AskPeer t m) outs s hs refl refl
    (λ v at. (let P : View → Type 0 = λ w. outs ≡ outs_of s.node w (event.AskPeer t m) in subst P (sym at) is))
    (λ desk acks.
    subst (λ os. IsViewOf s hs (next_view s.node (view_with s hs desk acks) (event.AskPeer t m) os)) (sym is)
    (ask-part-view s hs t m (is_some (pending t s.journal) && names_part t m s.journal) desk acks))

module _ {D : Type 0} {g : Ghosts D} where
  pub unwritten-self : (p : Pair D g) → IsUnwritten p p
  unwritten-self p =
      record {
        list = refl;
        live = record { tells = refl; file = refl; left = refl; own = refl; faults = refl };
        other = refl;
        second = refl;
        number = refl;
      }

  -- the node gives these and stays as it is
  pub quiet-done : (node : Node D g) (e : Event) (outs : List Out) → is_at_desk e ≡ false → IsPlainEvent g e
      → IsRowAt node.store node.waiting.reads e outs node.store node.waiting.reads
      → IsDone node e node outs
  quiet-done node e outs other plain row =
      done node node e outs other plain refl
      (record { row = row; rec = None; journal = refl; disks = unwritten-self node.pair })
