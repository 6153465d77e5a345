-- What a participant played on the parts of a node is a step of the node, and the node shows the next view.
use Rattle.std.proofs.Common.{◌≡◌, false, List, sym, ap, subst, ◌∙◌, inl}
use Rattle.score_base.specs.declared.ids.TxId.{TxId}
use Rattle.score_disk.specs.declared.disk.Disk.{Ghosts}
use Rattle.node_journal.specs.declared.pair.Pair.{Pair}
use Rattle.grid_model.specs.declared.events.Event.{Event}
use Rattle.grid_model.specs.declared.events.Out.{Out}
use Rattle.grid_model.specs.declared.stories.HeldRead.{HeldRead}
use Rattle.grid_model.specs.NextViews.{next_view}
use Rattle.grid_model.specs.Rows.{outs_of}
use Rattle.grid_model.specs.Views.{View}
use Rattle.grid_store.specs.Given.{Given, IsSame}
use Rattle.presumed_abort.specs.declared.stands.Stand.{Stand}
use Rattle.presumed_abort.specs.Views.{is_at_desk}
use Rattle.snapshot_read.specs.Held.{HeldReads}
use Rattle.node_core.specs.declared.nodes.Node.{Node}
use Rattle.node_core.specs.declared.ends.Stepped.{Stepped}
use Rattle.node_core.specs.declared.ends.Stepped.TheVariants as stepped
use Rattle.node_core.specs.declared.plays.Played.{Played}
use Rattle.node_core.specs.declared.plays.Played.TheVariants.{Done, Down, Memory}
use Rattle.node_core.specs.Shows.{Shows, own_view}
use Rattle.node_core.specs.Owning.{IsOwn}
use Rattle.node_core.specs.Steps.{IsDone, IsDown, IsUndone, IsStepped}
use Rattle.node_core.specs.Plays.{IsViewOf, IsRowAt, HasPlayed, HasStopped, IsUnplayed, IsPlayed, IsJoined}
use Rattle.node_core.proofs.Afterwards.{kept-of}
use Rattle.node_core.proofs.NextShown.{Has, other-shown}
use Rattle.node_core.proofs.PlainEvents.{IsPlainEvent}
use Rattle.node_core.proofs.OwnViews.{own-shown, shown-own}
use Rattle.node_core.proofs.Rows.{view-same}

-- what a row leaves is shown
pub row-shown : (s : Given) (hs : List HeldRead) (desk : List (TxId × Stand)) (e : Event) (outs : List Out) (s' : Given)
    (hs' : List HeldRead) (v : View) → is_at_desk e ≡ false → IsRowAt s hs e outs s' hs' → Shows s hs desk v
    → Shows s' hs' desk (next_view s.node v e outs)
row-shown s hs desk e outs s' hs' v other row shows =
    let same = row.row v shows.is in
    let is = subst (λ os. IsViewOf s' hs' (next_view s.node v e os)) same (row.view v shows.is) in
    let has : Has s' hs' (next_view s.node v e (outs_of s.node v e)) = record {
      cluster = ap (λ (w : View). w.cluster) is;
      journal = ap (λ (w : View). w.journal) is;
      next = ap (λ (w : View). w.next) is;
      held = ap (λ (w : View). w.held) is;
    } in
    subst (λ os. Shows s' hs' desk (next_view s.node v e os)) (sym same)
    (other-shown s.node v e s hs desk s' hs' other shows has)

-- what is as before but for room is shown still
pub same-shown : (s : Given) (hs : List HeldRead) (desk : List (TxId × Stand)) (s' : Given) (hs' : List HeldRead)
    (v : View) → IsSame s s' → hs' ≡ hs → Shows s hs desk v → Shows s' hs' desk v
same-shown s hs desk s' hs' v same held shows =
    record {
      is = view-same s s' hs hs' v same held shows.is;
      desk_is = shows.desk_is;
      apart = shows.apart;
      numbers = shows.numbers;
      votes = shows.votes;
    }

module _ {D : Type 0} {g : Ghosts D} where
  -- behind what was played the node keeps what it needs of its own view
  pub played-own : (s : Given) (hs : List HeldRead) (desk : List (TxId × Stand)) (p : Pair D g) (e : Event) (s' : Given)
      (hs' : List HeldRead) (played : Played D g) → is_at_desk e ≡ false → IsOwn s hs desk
      → IsPlayed s hs p e s' hs' played → IsOwn s' hs' desk
  played-own s hs desk p e s' hs' (Done q outs) other own is =
      own-shown s' hs' desk (next_view s.node (own_view s hs desk) e outs.items)
      (row-shown s hs desk e outs.items s' hs' (own_view s hs desk) other is.row (shown-own s hs desk own)) own.unique
  played-own s hs desk p e s' hs' (Down a b h) other own is =
      own-shown s' hs' desk (own_view s hs desk)
      (same-shown s hs desk s' hs' (own_view s hs desk) is.store is.held (shown-own s hs desk own)) own.unique
  played-own s hs desk p e s' hs' (Memory q) other own is =
      own-shown s' hs' desk (own_view s hs desk)
      (same-shown s hs desk s' hs' (own_view s hs desk) is.store is.held (shown-own s hs desk own)) own.unique

  pub done : (old new : Node D g) (e : Event) (outs : List Out) → is_at_desk e ≡ false → IsPlainEvent g e
      → new.desk ≡ old.desk
      → HasPlayed old.store old.waiting.reads old.pair e new.store new.waiting.reads new.pair outs
      → IsDone old e new outs
  done old new e outs other plain desk is =
      record {
        node = is.row.node;
        cluster = is.row.cluster;
        row = λ v shows. is.row.row v shows.is ∙ sym (plain.row old.store.node old.pair.number v);
        view = λ v shows. subst (λ d. Shows new.store new.waiting.reads d (next_view old.store.node v e outs)) (sym desk)
            (row-shown old.store old.waiting.reads old.desk e outs new.store new.waiting.reads v other is.row shows);
        moves = plain.moves old new is.rec (record { journal = is.journal; disks = is.disks });
      }

  pub undone' : (old new : Node D g) → new.desk ≡ old.desk
      → IsUnplayed old.store old.waiting.reads old.pair new.store new.waiting.reads new.pair → IsUndone old new
  undone' old new desk is =
      record {
        same = record { store = is.store; held = is.held; desk = desk };
        pair = kept-of old.pair new.pair is.pair;
      }

  pub down : (old : Node D g) (e : Event) (s' : Given) (hs' : List HeldRead) (first second : D) (h : _)
      → HasStopped old.store old.waiting.reads old.pair e s' hs' first second h → IsDown old e first second h
  down old e s' hs' first second h is =
      inl (
        is.rec,
        is.head,
        record {
          row = λ v shows. is.row v shows.is;
          disks = is.disks;
        },
      )

  -- the node of these parts is the step's
  pub stepped-of : (old : Node D g) (e : Event) (s' : Given) (w' : HeldReads) (played : Played D g) (r : Stepped D g)
      → is_at_desk e ≡ false → IsPlainEvent g e
      → IsPlayed old.store old.waiting.reads old.pair e s' w'.reads played
      → IsJoined s' w' old.desk played r → IsStepped old e r
  stepped-of old e s' w' (Done q outs) (stepped.Done new outs') other plain is of =
      let n = of.0 in
      let P : List Out → Type 0 = λ os. IsDone old e new os in
      subst P (sym (ap (λ (v : _). v.items) of.1))
      (done old new e outs.items other plain n.desk
      (subst (λ x. HasPlayed old.store old.waiting.reads old.pair e x new.waiting.reads new.pair outs.items) (sym n.store)
      (subst (λ (x : HeldReads). HasPlayed old.store old.waiting.reads old.pair e s' x.reads new.pair outs.items) (sym n.waiting)
      (subst (λ x. HasPlayed old.store old.waiting.reads old.pair e s' w'.reads x outs.items) (sym n.pair) is))))
  stepped-of old e s' w' (Down a b h) (stepped.Down a' b' h') other plain is of =
      subst (λ x. IsDown old e x b' h') (sym of.0)
      (subst (λ x. IsDown old e a x h') (sym of.1)
      (subst (λ x. IsDown old e a b x) (sym of.2) (down old e s' w'.reads a b h is)))
  stepped-of old e s' w' (Memory q) (stepped.Memory new) other plain is of =
      undone' old new of.desk
      (subst (λ x. IsUnplayed old.store old.waiting.reads old.pair x new.waiting.reads new.pair) (sym of.store)
      (subst (λ (x : HeldReads). IsUnplayed old.store old.waiting.reads old.pair s' x.reads new.pair) (sym of.waiting)
      (subst (λ x. IsUnplayed old.store old.waiting.reads old.pair s' w'.reads x) (sym of.pair) is)))
  stepped-of old e s' w' (Done q outs) (stepped.Down a b h) other plain is of = absurd of
  stepped-of old e s' w' (Done q outs) (stepped.Memory new) other plain is of = absurd of
  stepped-of old e s' w' (Down a b h) (stepped.Done new outs) other plain is of = absurd of
  stepped-of old e s' w' (Down a b h) (stepped.Memory new) other plain is of = absurd of
  stepped-of old e s' w' (Memory q) (stepped.Done new outs) other plain is of = absurd of
  stepped-of old e s' w' (Memory q) (stepped.Down a b h) other plain is of = absurd of
