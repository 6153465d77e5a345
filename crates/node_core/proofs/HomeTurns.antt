-- A turn of the desk that is the row of an event is a step of the node.
use Rattle.std.proofs.Common.{◌≡◌, nat_eq, true, List, [], ◌∷◌, Option, Some, None, refl, sym, ap, subst, ◌∙◌, inl, arith}
use Rattle.std.specs.Prelude.{is_some}
use Rattle.std.specs.List.{IsDistinct}
use Rattle.std.specs.Map.{keys_of}
use Rattle.score_base.specs.declared.ids.TxId.{TxId}
use Rattle.score_base.specs.declared.ids.NodeId.{NodeId}
use Rattle.score_base.specs.declared.ids.Ident.{Ident}
use Rattle.score_base.specs.declared.records.Record.{Record}
use Rattle.score_base.specs.declared.records.Record.TheVariants as record'
use Rattle.score_disk.specs.declared.disk.Disk.{Ghosts}
use Rattle.journal_words.specs.Journals.{fits}
use Rattle.node_journal.specs.declared.pair.Pair.{Pair}
use Rattle.node_journal.specs.PairDisks.{HasPairRoom}
use Rattle.grid_model.specs.declared.acts.Head.{Head}
use Rattle.grid_model.specs.declared.events.Event.{Event}
use Rattle.grid_model.specs.declared.events.Out.{Out}
use Rattle.grid_model.specs.declared.stories.HeldRead.{HeldRead}
use Rattle.grid_model.specs.Nodes.{written, learnt}
use Rattle.grid_model.specs.NextViews.{next_view}
use Rattle.grid_model.specs.Views.{View}
use Rattle.grid_store.specs.Given.{Given, IsSame, HasRoom, Room}
use Rattle.snapshot_read.specs.Held.{HeldReads}
use Rattle.presumed_abort.specs.declared.dues.Due.{Due}
use Rattle.presumed_abort.specs.declared.dues.Due.TheVariants as due'
use Rattle.presumed_abort.specs.declared.dues.DeskDue.{DeskDue}
use Rattle.presumed_abort.specs.declared.dues.DeskTurn.{DeskTurn}
use Rattle.presumed_abort.specs.declared.dues.DeskTurn.TheVariants as turn'
use Rattle.presumed_abort.specs.declared.stands.Stand.{Stand}
use Rattle.presumed_abort.specs.declared.stands.Stand.TheVariants as stand
use Rattle.presumed_abort.specs.Dues as desk_dues
use Rattle.presumed_abort.specs.Dues.{change_due}
use Rattle.presumed_abort.specs.Stands.{standing}
use Rattle.presumed_abort.specs.Turns.{Keeps, Turn, changed}
use Rattle.presumed_abort.specs.Views.{IsRow, IsDeskOf}
use Rattle.presumed_abort.proofs.Inserts.{inserted-twice, removed-twice}
use Rattle.presumed_abort.proofs.Replayed.{changed-distinct}
use Rattle.node_core.specs.declared.nodes.Node.{Node}
use Rattle.node_core.specs.declared.ends.Stepped.{Stepped}
use Rattle.node_core.specs.declared.ends.Stepped.TheVariants as stepped
use Rattle.node_core.specs.Heads.{head_of}
use Rattle.node_core.specs.Shows.{Shows, own_view}
use Rattle.node_core.specs.Owning.{IsOwn}
use Rattle.node_core.specs.Homes.{is_of_home, HasHomeRoom, Admits, IsMadeOf, CanTurn, IsTurnedAs}
use Rattle.node_core.specs.Steps.{IsWritten, IsUnwritten, IsDone, IsDown, IsUndone, IsStepped, IsCut}
use Rattle.node_core.proofs.NextShown.{has-shown, turn-shown}
use Rattle.node_core.proofs.OwnViews.{own-shown, shown-own}
use Rattle.node_core.proofs.Afterwards.{then-appended, then-cut, kept-of, unwritten-same}
use Rattle.node_core.proofs.PlainEvents.{IsPlainEvent}

-- in each view that is shown the turn is the row of the event
abbrev pub IsRowIn : Given → List HeldRead → List (TxId × Stand) → Event → TxId → Turn → Type 0
IsRowIn s hs desk e t x = (v : View) → Shows s hs desk v → IsRow s.node v desk e t x

-- the store behind the record of a turn, where there is one
pub record Behind (x : Option Record) (s s' : Given) : Type 0 where
  pub node : s'.node ≡ s.node
  pub cluster : s'.cluster ≡ s.cluster
  pub journal : s'.journal ≡ written x s.journal
  pub next : s'.next ≡ learnt x s.next

pub same-behind : (x : Option Record) (s s' : Given) → x ≡ None → IsSame s s' → Behind x s s'
same-behind x s s' none same =
    record {
      node = same.node;
      cluster = same.cluster;
      journal = same.journal ∙ sym (ap (λ o. written o s.journal) none);
      next = same.next ∙ sym (ap (λ o. learnt o s.next) none);
    }

pub admits-behind : (x : Option Record) (r : Record) (s s' s'' : Given)
    → x ≡ Some r → IsSame s s' → Admits r s' s'' → Behind x s s''
admits-behind x r s s' s'' is same admits =
    record {
      node = admits.node ∙ same.node;
      cluster = admits.cluster ∙ same.cluster;
      journal = admits.journal ∙ ap (λ j. r ∷ j) same.journal ∙ sym (ap (λ o. written o s.journal) is);
      next = admits.next ∙ ap (learnt (Some r)) same.next ∙ sym (ap (λ o. learnt o s.next) is);
    }

-- what is shown behind a turn
pub behind-shown : (e : Event) (t : TxId) (x : Turn) (s : Given) (hs : List HeldRead) (desk : List (TxId × Stand))
    (s' : Given) (desk' : List (TxId × Stand)) (outs : List Out) (v : View)
    → IsRowIn s hs desk e t x → Behind x.rec s s' → desk' ≡ changed t x.change desk → outs ≡ x.outs
    → Shows s hs desk v → Shows s' hs desk' (next_view s.node v e outs)
behind-shown e t x s hs desk s' desk' outs v row behind change outs_are shows =
    subst (λ os. Shows s' hs desk' (next_view s.node v e os)) (sym (outs_are ∙ (row v shows).outs_are))
    (turn-shown s.node v e t x s hs desk s' desk' shows (row v shows) behind.cluster behind.journal behind.next change)

-- behind a turn the node keeps what it needs of its own view
pub behind-own : (e : Event) (t : TxId) (x : Turn) (s : Given) (hs : List HeldRead) (desk : List (TxId × Stand))
    (s' : Given) (desk' : List (TxId × Stand))
    → IsRowIn s hs desk e t x → Behind x.rec s s' → desk' ≡ changed t x.change desk
    → IsOwn s hs desk → IsOwn s' hs desk'
behind-own e t x s hs desk s' desk' row behind change own =
    own-shown s' hs desk' (next_view s.node (own_view s hs desk) e x.outs)
    (behind-shown e t x s hs desk s' desk' x.outs (own_view s hs desk) row behind change refl (shown-own s hs desk own))
    (subst (λ d. IsDistinct nat_eq (keys_of d)) (sym change) (changed-distinct t x.change desk own.unique))

-- where all but room is as before the node keeps it too
pub same-own : (s : Given) (hs : List HeldRead) (desk : List (TxId × Stand)) (s' : Given) (desk' : List (TxId × Stand))
    → IsSame s s' → desk' ≡ desk → IsOwn s hs desk → IsOwn s' hs desk'
same-own s hs desk s' desk' same is own =
    let shows = shown-own s hs desk own in
    let v = own_view s hs desk in
    own-shown s' hs desk' v
    (record {
      is = λ i. record {
        cluster = (sym same.cluster) i;
        journal = (sym same.journal) i;
        next = (sym same.next) i;
        held = hs;
        desk = v.desk;
        acks = v.acks;
      };
      desk_is = subst (IsDeskOf v) (sym is) shows.desk_is;
      apart = shows.apart;
      numbers = shows.numbers;
      votes = shows.votes;
    })
    (subst (λ d. IsDistinct nat_eq (keys_of d)) (sym is) own.unique)

pub same-given : (s : Given) → IsSame s s
same-given s = record { node = refl; cluster = refl; journal = refl; next = refl }

-- behind a turn that is done at once
pub done-own : (e : Event) (t : TxId) (x : Turn) (s : Given) (hs : List HeldRead) (desk desk' : List (TxId × Stand))
    (outs : List Out) → IsRowIn s hs desk e t x → IsOwn s hs desk → desk_dues.IsDone x t desk desk' outs
    → IsOwn s hs desk'
done-own e t x s hs desk desk' outs row own done =
    behind-own e t x s hs desk s desk' row (same-behind x.rec s s done.none (same-given s)) done.desk own

-- ---- what is due

-- what is due is on a record of a home
pub of-home : (d : Due) (r : Record) → desk_dues.IsOf d r → is_of_home r ≡ true
of-home (due'.Commit x) (record'.Decided t f parts) of = refl
of-home (due'.Close x) (record'.Closed t) of = refl
of-home (due'.Commit x) (record'.Closed t) of = absurd of
of-home (due'.Commit x) (record'.Ceiling c) of = absurd of
of-home (due'.Commit x) (record'.Ended t o) of = absurd of
of-home (due'.Commit x) (record'.Prepared t home parts sid p reads writes) of = absurd of
of-home (due'.Close x) (record'.Decided t f parts) of = absurd of
of-home (due'.Close x) (record'.Ceiling c) of = absurd of
of-home (due'.Close x) (record'.Ended t o) of = absurd of
of-home (due'.Close x) (record'.Prepared t home parts sid p reads writes) of = absurd of

-- its change is made as if its transaction had not been taken away
due-change : (d : Due) (t : TxId) (desk : List (TxId × Stand)) → is_some (standing desk t) ≡ true
    → changed t (change_due d) (changed t (Keeps stand.Away) desk) ≡ changed t (change_due d) desk
due-change (due'.Commit x) t desk there = inserted-twice t stand.Away (stand.Committed (record { t = x.t; f = x.f; parts = x.parts; acks = x.acks })) desk
due-change (due'.Close x) t desk there = removed-twice t stand.Away desk there

due-desk : (x : Turn) (t : TxId) (desk desk' : List (TxId × Stand)) (d : DeskDue) (r : Record)
    → is_some (standing desk t) ≡ true → desk_dues.IsDue x t desk desk' d r
    → changed d.t (change_due d.due) desk' ≡ changed t x.change desk
due-desk x t desk desk' d r there due =
    ap (λ u. changed u (change_due d.due) desk') due.tx
    ∙ ap (changed t (change_due d.due)) due.away
    ∙ due-change d.due t desk there
    ∙ ap (λ c. changed t c desk) due.change

module _ {D : Type 0} {g : Ghosts D} where
  -- what a turn of the desk hands out can be done: its record fits and has room
  pub can-turn : (e : Event) (t : TxId) (x : Turn) (s : Given) (hs : List HeldRead) (desk : List (TxId × Stand))
      (s' : Given) (desk' : List (TxId × Stand)) (p : Pair D g) (turn : DeskTurn)
      → IsRowIn s hs desk e t x → IsOwn s hs desk → IsSame s s'
      → HasHomeRoom s'.room → HasPairRoom p
      → ((r : Record) → x.rec ≡ Some r → fits s.cluster s.node s.journal r ≡ true)
      → ((r : Record) → x.rec ≡ Some r → is_some (standing desk t) ≡ true)
      → desk_dues.IsTurn x t desk desk' turn → CanTurn s' hs desk' p turn
  can-turn e t x s hs desk s' desk' p (turn'.Outs outs) row own same room pair fit there done =
      behind-own e t x s hs desk s' desk' row (same-behind x.rec s s' done.none same) done.desk own
  can-turn e t x s hs desk s' desk' p (turn'.Due d r) row own same room pair fit there due =
      record {
        of = due.of;
        place = ap (standing desk') due.tx ∙ due.place;
        fit = ap (λ c. fits c s'.node s'.journal r) same.cluster
            ∙ ap (λ n. fits s.cluster n s'.journal r) same.node
            ∙ ap (λ j. fits s.cluster s.node j r) same.journal
            ∙ fit r due.is;
        room = room r (of-home d.due r due.of);
        pair_room = pair;
        encodes = due.fit;
        own = λ s'' admits.
            behind-own e t x s hs desk s'' (changed d.t (change_due d.due) desk') row
            (admits-behind x.rec r s s' s'' due.is same admits)
            (due-desk x t desk desk' d r (there r due.is) due) own;
      }

  -- ---- the step

  -- a turn whose record is written, where there is one, and whose change is made
  pub turn-done : (old new : Node D g) (e : Event) (t : TxId) (x : Turn) (outs : List Out) → IsPlainEvent g e
      → IsRowIn old.store old.waiting.reads old.desk e t x → Behind x.rec old.store new.store
      → new.waiting.reads ≡ old.waiting.reads → new.desk ≡ changed t x.change old.desk → outs ≡ x.outs
      → IsWritten x.rec old.pair new.pair → IsDone old e new outs
  turn-done old new e t x outs plain row behind held change outs_are disks =
      record {
        node = behind.node;
        cluster = behind.cluster;
        row = λ v shows. outs_are ∙ (row v shows).outs_are ∙ sym (plain.row old.store.node old.pair.number v);
        view = λ v shows.
            subst (λ hs. Shows new.store hs new.desk (next_view old.store.node v e outs)) (sym held)
            (behind-shown e t x old.store old.waiting.reads old.desk new.store new.desk outs v row behind change
            outs_are shows);
        moves = plain.moves old new x.rec (record { journal = behind.journal; disks = disks });
      }

  pub turn-down : (old : Node D g) (e : Event) (t : TxId) (x : Turn) (r : Record) (first second : D) (h : Head)
      → IsRowIn old.store old.waiting.reads old.desk e t x → x.rec ≡ Some r → h ≡ head_of r
      → IsCut old.pair r first second → IsDown old e first second h
  turn-down old e t x r first second h row is head cut =
      inl (
        r,
        head,
        record {
          row = λ v shows.
              (row v shows).journal ∙ ap (λ o. written o v.journal) is
              ∙ ap (λ j. r ∷ j) (has-shown old.store old.waiting.reads old.desk v shows).journal;
          disks = cut;
        },
      )

  -- what a turn of the desk hands out, done on the parts of a node, is a step of the node
  pub turned-step : (old : Node D g) (e : Event) (t : TxId) (x : Turn) (s' : Given) (desk' : List (TxId × Stand))
      (p : Pair D g) (turn : DeskTurn) (r : Stepped D g) → IsPlainEvent g e
      → IsRowIn old.store old.waiting.reads old.desk e t x → IsSame old.store s' → IsUnwritten old.pair p
      → ((y : Record) → x.rec ≡ Some y → is_some (standing old.desk t) ≡ true)
      → desk_dues.IsTurn x t old.desk desk' turn → IsTurnedAs s' old.waiting desk' p turn r → IsStepped old e r
  turned-step old e t x s' desk' p (turn'.Outs outs) (stepped.Done new outs') plain row same room there done of =
      turn-done old new e t x outs'.items plain row
      (subst (Behind x.rec old.store) (sym of.0.store) (same-behind x.rec old.store s' done.none same))
      (ap (λ (w : HeldReads). w.reads) of.0.waiting) (of.0.desk ∙ done.desk) (of.1 ∙ done.outs_are)
      (subst (λ o. IsWritten o old.pair new.pair) (sym done.none)
      (subst (λ q. IsUnwritten old.pair q) (sym of.0.pair) room))
  turned-step old e t x s' desk' p (turn'.Outs outs) (stepped.Down a b h) plain row same room there done of = absurd of
  turned-step old e t x s' desk' p (turn'.Outs outs) (stepped.Memory new) plain row same room there done of = absurd of
  turned-step old e t x s' desk' p (turn'.Due d y) (stepped.Done new outs') plain row same room there due of =
      turn-done old new e t x outs'.items plain row
      (admits-behind x.rec y old.store s' new.store due.is same of.0.store)
      (ap (λ (w : HeldReads). w.reads) of.0.waiting)
      (of.0.desk ∙ due-desk x t old.desk desk' d y (there y due.is) due) (of.1 ∙ due.outs_are)
      (subst (λ o. IsWritten o old.pair new.pair) (sym due.is)
      (then-appended y old.pair p new.pair room of.0.disks))
  turned-step old e t x s' desk' p (turn'.Due d y) (stepped.Down a b h) plain row same room there due of =
      turn-down old e t x y a b h row due.is of.0 (then-cut y old.pair p a b room of.1)
  turned-step old e t x s' desk' p (turn'.Due d y) (stepped.Memory new) plain row same room there due of = absurd of

  -- a turn that is done at once, and the node that is made behind it
  pub done-step : (old new : Node D g) (e : Event) (t : TxId) (x : Turn) (desk' : List (TxId × Stand))
      (outs : List Out) → IsPlainEvent g e → IsRowIn old.store old.waiting.reads old.desk e t x
      → desk_dues.IsDone x t old.desk desk' outs → IsMadeOf old.store old.waiting desk' old.pair new
      → IsDone old e new outs
  done-step old new e t x desk' outs plain row done made =
      turn-done old new e t x outs plain row
      (subst (Behind x.rec old.store) (sym made.store) (same-behind x.rec old.store old.store done.none (same-given old.store)))
      (ap (λ (w : HeldReads). w.reads) made.waiting) (made.desk ∙ done.desk) done.outs_are
      (subst (λ o. IsWritten o old.pair new.pair) (sym done.none) (unwritten-same old.pair new.pair made.pair))

  -- nothing was done
  pub undone-of : (old new : Node D g) (s' : Given) (desk' : List (TxId × Stand)) (p : Pair D g)
      → new.store ≡ s' → new.waiting ≡ old.waiting → new.desk ≡ desk' → new.pair ≡ p
      → IsSame old.store s' → desk' ≡ old.desk → IsUnwritten old.pair p → IsUndone old new
  undone-of old new s' desk' p store waiting desk pair same is room =
      record {
        same = record {
          store = subst (IsSame old.store) (sym store) same;
          held = ap (λ (w : HeldReads). w.reads) waiting;
          desk = desk ∙ is;
        };
        pair = kept-of old.pair new.pair (subst (λ q. IsUnwritten old.pair q) (sym pair) room);
      }

-- room for a Closed is room for each record of a home
pub home-room : (t : TxId) (room : Room) → HasRoom (record'.Closed t) room
    → ((t u : TxId) (g : Ident) (others : List NodeId) (room : Room) → HasRoom (record'.Closed t) room
    → HasRoom (record'.Decided u g others) room × HasRoom (record'.Closed u) room)
    → HasHomeRoom room
home-room t room has law (record'.Decided u g others) is = (law t u g others room has).0
home-room t room has law (record'.Closed u) is = (law t u 0 [] room has).1
home-room t room has law (record'.Ceiling c) is = absurd (grind (arith, is))
home-room t room has law (record'.Ended u o) is = absurd (grind (arith, is))
home-room t room has law (record'.Prepared u home parts sid p reads writes) is = absurd (grind (arith, is))
