-- What a node keeps of its own view.
use Rattle.std.specs.Prelude.{nat_eq, List, Option}
use Rattle.std.specs.List.{IsDistinct}
use Rattle.std.specs.Map.{keys_of}
use Rattle.std.specs.Coded.{coded_option, Coded-set}
use Rattle.std.proofs.Props.{props}
use Rattle.score_base.specs.declared.ids.TxId.{TxId}
use Rattle.grid_model.specs.declared.stories.HeldRead.{HeldRead}
use Rattle.grid_model.specs.Views.{Open}
use Rattle.grid_store.specs.Given.{Given}
use Rattle.presumed_abort.specs.declared.stands.Stand.{Stand}
use Rattle.presumed_abort.specs.contracts.stands.Stand as stand_code
use Rattle.presumed_abort.specs.contracts.opens.Open as open_code
use Rattle.presumed_abort.specs.Views.{IsDeskOf, AreApart, OwnNumbers}
use Rattle.node_core.specs.Shows.{AreYes, own_view}

-- The desk is that of the node's own view, in which no decided transaction is open besides, each open one has its own
-- number, and each yes has a proposal; and no number stands twice at the desk.
pub record IsOwn (s : Given) (hs : List HeldRead) (desk : List (TxId × Stand)) : Type 0 where
  pub desk_is : IsDeskOf (own_view s hs desk) desk
  pub apart : AreApart (own_view s hs desk)
  pub numbers : OwnNumbers (own_view s hs desk)
  pub votes : AreYes (own_view s hs desk)
  pub unique : IsDistinct nat_eq (keys_of desk)

pub stands_set : IsSet (Option Stand)
stands_set = Coded-set (coded_option stand_code.the_row.coded)

pub opens_set : IsSet (Option Open)
opens_set = Coded-set (coded_option open_code.the_row.coded)

-- a node keeps it in at most one way
pub IsOwn-prop : (s : Given) (hs : List HeldRead) (desk : List (TxId × Stand)) → IsProp (IsOwn s hs desk)
IsOwn-prop s hs desk = hlevel (stands_set, opens_set, props)
