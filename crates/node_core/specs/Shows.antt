-- The views that a node shows. A view has the open transactions and the acknowledgements as functions; a node keeps
-- them at its desk.
use Rattle.std.specs.Prelude.{◌≡◌, nat_le, true, List, [], Option, Some, None}
use Rattle.std.specs.List.{list_all}
use Rattle.score_base.specs.declared.ids.TxId.{TxId}
use Rattle.score_base.specs.declared.ids.NodeId.{NodeId}
use Rattle.grid_model.specs.declared.stories.HeldRead.{HeldRead}
use Rattle.grid_model.specs.Views.{View, Open}
use Rattle.grid_store.specs.Given.{Given}
use Rattle.snapshot_read.specs.Views.{view_with}
use Rattle.presumed_abort.specs.declared.stands.Stand.{Stand}
use Rattle.presumed_abort.specs.declared.stands.Stand.TheVariants as stand
use Rattle.presumed_abort.specs.Stands.{standing}
use Rattle.presumed_abort.specs.Views.{IsDeskOf, AreApart, OwnNumbers}

-- each yes that an open transaction of the view has taken has a proposal of at least 1
abbrev pub AreYes : View → Type 0
AreYes v =
    (t : TxId) (x : Open) → v.desk t ≡ Some x → list_all (λ y. nat_le 1 y.p) x.progress.votes ≡ true

-- A node with this store, these held reads and this desk shows the view: it has the records, the clock and the held
-- reads of the node, and its desk is the node's; no decided transaction is open besides, each open transaction has its
-- own number, and each yes has a proposal.
pub record Shows (s : Given) (hs : List HeldRead) (desk : List (TxId × Stand)) (v : View) : Type 0 where
  pub is : v ≡ view_with s hs v.desk v.acks
  pub desk_is : IsDeskOf v desk
  pub apart : AreApart v
  pub numbers : OwnNumbers v
  pub votes : AreYes v

-- what a home knows of an open transaction, by where it stands
abbrev pub open_in : Option Stand → Option Open
open_in (Some (stand.Reading x)) = Some x.tx
open_in (Some (stand.Collecting x)) = Some x.tx
open_in o = None

-- the acknowledgements of a decided transaction, by where it stands
abbrev pub acks_in : Option Stand → List NodeId
acks_in (Some (stand.Committed x)) = x.acks
acks_in o = []

-- the node's own view: what its desk says, as functions
abbrev pub own_view : Given → List HeldRead → List (TxId × Stand) → View
own_view s hs desk = view_with s hs (λ t. open_in (standing desk t)) (λ t. acks_in (standing desk t))
