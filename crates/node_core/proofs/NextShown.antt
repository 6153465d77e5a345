-- Behind an event a node shows the next view.
use Rattle.std.proofs.Common.{◌≡◌, nat_eq, List, false, sym, ap, subst, ◌∙◌}
use Rattle.std.specs.List.{IsDistinct}
use Rattle.std.specs.Map.{keys_of}
use Rattle.score_base.specs.declared.ids.TxId.{TxId}
use Rattle.score_base.specs.declared.ids.NodeId.{NodeId}
use Rattle.grid_model.specs.declared.events.Event.{Event}
use Rattle.grid_model.specs.declared.stories.HeldRead.{HeldRead}
use Rattle.grid_model.specs.Nodes.{written, learnt}
use Rattle.grid_model.specs.Rows.{outs_of}
use Rattle.grid_model.specs.Views.{View}
use Rattle.grid_model.specs.NextViews.{next_view}
use Rattle.grid_store.specs.Given.{Given}
use Rattle.presumed_abort.specs.declared.stands.Stand.{Stand}
use Rattle.presumed_abort.specs.Turns.{Turn, changed}
use Rattle.presumed_abort.specs.Views.{IsDeskOf, IsRow, is_at_desk}
use Rattle.presumed_abort.proofs.KeptFacts.{kept-apart, kept-own}
use Rattle.presumed_abort.proofs.OtherRows.{other-row}
use Rattle.node_core.specs.Shows.{Shows}
use Rattle.node_core.specs.Owning.{IsOwn}
use Rattle.node_core.proofs.Yes.{kept-yes}
use Rattle.node_core.proofs.OwnViews.{own-shown}

-- a view has these records, this clock and these held reads
pub record Has (s : Given) (hs : List HeldRead) (w : View) : Type 0 where
  pub cluster : w.cluster ≡ s.cluster
  pub journal : w.journal ≡ s.journal
  pub next : w.next ≡ s.next
  pub held : w.held ≡ hs

-- a view that is shown has what the node has
pub has-shown : (s : Given) (hs : List HeldRead) (desk : List (TxId × Stand)) (v : View)
    → Shows s hs desk v → Has s hs v
has-shown s hs desk v shows =
    record {
      cluster = ap (λ w. w.cluster) shows.is;
      journal = ap (λ w. w.journal) shows.is;
      next = ap (λ w. w.next) shows.is;
      held = ap (λ w. w.held) shows.is;
    }

-- Behind an event of a view that was shown, a node that has the records, the clock, the held reads and the desk
-- of the next view shows it.
pub next-shown : (n : NodeId) (v : View) (e : Event) (s : Given) (hs : List HeldRead) (desk : List (TxId × Stand))
    (s' : Given) (hs' : List HeldRead) (desk' : List (TxId × Stand))
    → Shows s hs desk v → Has s' hs' (next_view n v e (outs_of n v e))
    → IsDeskOf (next_view n v e (outs_of n v e)) desk'
    → Shows s' hs' desk' (next_view n v e (outs_of n v e))
next-shown n v e s hs desk s' hs' desk' shows has at =
    record {
      is = λ i. record {
        cluster = has.cluster i;
        journal = has.journal i;
        next = has.next i;
        held = has.held i;
        desk = (next_view n v e (outs_of n v e)).desk;
        acks = (next_view n v e (outs_of n v e)).acks;
      };
      desk_is = at;
      apart = kept-apart n v e (outs_of n v e) shows.apart;
      numbers = kept-own n v e shows.numbers;
      votes = kept-yes n v e (outs_of n v e) shows.votes;
    }

-- Where the event comes to no desk, the desk stays as it is.
pub other-shown : (n : NodeId) (v : View) (e : Event) (s : Given) (hs : List HeldRead) (desk : List (TxId × Stand))
    (s' : Given) (hs' : List HeldRead)
    → is_at_desk e ≡ false → Shows s hs desk v → Has s' hs' (next_view n v e (outs_of n v e))
    → Shows s' hs' desk (next_view n v e (outs_of n v e))
other-shown n v e s hs desk s' hs' other shows has =
    next-shown n v e s hs desk s' hs' desk shows has (other-row n v desk e other shows.desk_is)

-- A turn of the desk that is the row of the event: the node has its record, and the change is made.
pub turn-shown : (n : NodeId) (v : View) (e : Event) (t : TxId) (x : Turn) (s : Given) (hs : List HeldRead)
    (desk : List (TxId × Stand)) (s' : Given) (desk' : List (TxId × Stand))
    → Shows s hs desk v → IsRow n v desk e t x
    → s'.cluster ≡ s.cluster → s'.journal ≡ written x.rec s.journal → s'.next ≡ learnt x.rec s.next
    → desk' ≡ changed t x.change desk
    → Shows s' hs desk' (next_view n v e (outs_of n v e))
turn-shown n v e t x s hs desk s' desk' shows row cluster journal next changed' =
    let has = has-shown s hs desk v shows in
    next-shown n v e s hs desk s' hs desk' shows
    (record {
      cluster = row.cluster ∙ has.cluster ∙ sym cluster;
      journal = row.journal ∙ ap (written x.rec) has.journal ∙ sym journal;
      next = row.next ∙ ap (learnt x.rec) has.next ∙ sym next;
      held = row.held ∙ has.held;
    })
    (subst (IsDeskOf (next_view n v e (outs_of n v e))) (sym changed') row.desk_is)

-- Behind any event whose next view is shown a node keeps what it needs of its own view.
pub own-next : (n : NodeId) (v : View) (e : Event) (s' : Given) (hs' : List HeldRead) (desk' : List (TxId × Stand))
    → Shows s' hs' desk' (next_view n v e (outs_of n v e)) → IsDistinct nat_eq (keys_of desk') → IsOwn s' hs' desk'
own-next n v e s' hs' desk' shows unique = own-shown s' hs' desk' (next_view n v e (outs_of n v e)) shows unique
