-- A node that stands behind a past stands behind acts that leave it as it was.
use Rattle.std.proofs.Common.{◌≡◌, ℕ, ◌+◌, true, false, is_some, List, ◌∷◌, length, reverse, Option, Some, None, sym, ap, subst, ◌∙◌}
use Rattle.score_base.specs.declared.ids.NodeId.{NodeId}
use Rattle.score_disk.specs.declared.disk.Disk.{Ghosts}
use Rattle.journal_words.specs.Small.{AreAlike, small}
use Rattle.grid_model.specs.declared.acts.Act.{Act}
use Rattle.grid_model.specs.declared.acts.Head.{Head}
use Rattle.grid_model.specs.declared.acts.Head.TheVariants as head
use Rattle.grid_model.specs.Documents.{DocumentData}
use Rattle.grid_model.specs.Disks.{is_compacting}
use Rattle.grid_model.specs.Fuses.{lets_found}
use Rattle.grid_model.specs.Nodes.{Node as Known, node, journal}
use Rattle.grid_model.specs.Views.{View}
use Rattle.node_core.specs.declared.nodes.Node.{Node}
use Rattle.node_core.specs.Steps.{ShowsView}
use Rattle.disk_laws.specs.Shown.{Shown, Seats, shown, seats, HasLog, AreAtRest}
use Rattle.disk_laws.specs.Seats.{StandsUp, StandsDown, HoldsLog, standing, in_doubt, compacting, IsPlain}
use Rattle.disk_laws.specs.Ties.{IsTied, is_fresh}
use Rattle.view_laws.specs.Unmoved.{IsUnmoved}
use Rattle.grid_hosts.specs.declared.falls.Fall.{Fall}
use Rattle.grid_hosts.specs.declared.hosts.Place.{Place}
use Rattle.grid_hosts.specs.declared.hosts.Place.TheVariants.{Up, Down}
use Rattle.host_laws.specs.Standing.{SaysDoubt, FallStands, NodeStands, Stands}

-- ---- its disks

same-journal : (d : DocumentData) (p q : List Act) (n : NodeId) → IsUnmoved d p q n → journal d q n ≡ journal d p n
same-journal d p q n u = ap (λ (x : Known). x.journal) u.node

same-plain : (d : DocumentData) (p q : List Act) (n number : ℕ) → IsUnmoved d p q n → IsPlain d p n number →
    IsPlain d q n number
same-plain d p q n number u plain zero = u.disklog ∙ plain zero ∙ sym (same-journal d p q n u)

same-up : (d : DocumentData) (p q : List Act) (n number : ℕ) (s : Seats) → IsUnmoved d p q n →
    StandsUp d p n number s → StandsUp d q n number s
same-up d p q n number s u st = record {
  up = ap (λ (x : Known). x.up) u.node ∙ st.up;
  rest = subst (λ r. AreAtRest (reverse r) number s) (sym u.disklog) st.rest;
  tied = subst (λ x. IsTied x s.live.left s.other.left) (sym u.fuse) st.tied;
  plain = same-plain d p q n number u st.plain;
}

same-log : (d : DocumentData) (p q : List Act) (n number : ℕ) (a b : List ℕ) → IsUnmoved d p q n →
    HoldsLog d p n number a b → HoldsLog d q n number a b
same-log d p q n number a b u (standing is) = standing (subst (λ r. HasLog (reverse r) number a b) (sym u.disklog) is)
same-log d p q n number a b u (in_doubt last not_small doubt lets is) =
    in_doubt last (u.compacting ∙ not_small) (ap (λ (x : Known). x.doubt) u.node ∙ doubt)
    (ap (lets_found false) u.fuse_at_stop ∙ lets)
    (subst (λ r. HasLog (reverse (last ∷ r)) number a b) (sym u.disklog) is)
same-log d p q n number a b u (compacting is_small lets is) =
    compacting (u.compacting ∙ is_small) (ap (lets_found true) u.fuse_at_stop ∙ lets)
    (subst (λ r. HasLog (reverse (small r)) (number + 1) a b) (sym u.disklog) is)

same-down : (d : DocumentData) (p q : List Act) (n number : ℕ) (first second : Shown) → IsUnmoved d p q n →
    StandsDown d p n number first second → StandsDown d q n number first second
same-down d p q n number first second u st = record {
  down = ap (λ (x : Known). x.up) u.node ∙ st.down;
  first_settled = st.first_settled;
  second_settled = st.second_settled;
  holds = same-log d p q n number first.file.seen second.file.seen u st.holds;
  tied = subst (λ x. IsTied x first.left second.left) (sym u.fuse) st.tied;
  fresh = ap is_fresh u.fuse ∙ st.fresh;
  plain = same-plain d p q n number u st.plain;
}

-- ---- what was in doubt

pub says-same : (d : DocumentData) (p q : List Act) (n : NodeId) (h : Option Head) →
    is_compacting q n ≡ is_compacting p n → (node d q n).doubt ≡ (node d p n).doubt → SaysDoubt d p n h →
    SaysDoubt d q n h
says-same d p q n None small doubt says = (small ∙ says.0, doubt ∙ says.1)
says-same d p q n (Some head.Compact) small doubt says = small ∙ says
says-same d p q n (Some (head.Prepared t i)) small doubt says = (small ∙ says.0, ap is_some doubt ∙ says.1)
says-same d p q n (Some (head.Ended t o)) small doubt says = (small ∙ says.0, ap is_some doubt ∙ says.1)
says-same d p q n (Some (head.Ceiling c)) small doubt says = (small ∙ says.0, ap is_some doubt ∙ says.1)
says-same d p q n (Some (head.Decided t f)) small doubt says = (small ∙ says.0, ap is_some doubt ∙ says.1)
says-same d p q n (Some (head.Closed t)) small doubt says = (small ∙ says.0, ap is_some doubt ∙ says.1)

-- ---- the node

module _ {D : Type 0} {g : Ghosts D} where
  node-unmoved : (d : DocumentData) (p q : List Act) (n : NodeId) (x : Node D g) → IsUnmoved d p q n →
      NodeStands d p n x → NodeStands d q n x
  node-unmoved d p q n x u st = record {
    number = st.number;
    cluster = st.cluster;
    alike = subst (AreAlike x.store.journal) (sym (same-journal d p q n u)) st.alike;
    shows = subst (λ (v : View). ShowsView x (record v { journal = x.store.journal })) (sym u.view) st.shows;
    list = st.list ∙ ap reverse (sym u.disklog);
    tells = st.tells;
    disks = same-up d p q n x.pair.number (seats x.pair) u st.disks;
  }

  fall-unmoved : (d : DocumentData) (p q : List Act) (n : NodeId) (a b : D) (fall : Fall) → IsUnmoved d p q n →
      FallStands g d p n a b fall → FallStands g d q n a b fall
  fall-unmoved d p q n a b fall u st = record {
    tells_first = st.tells_first;
    tells_second = st.tells_second;
    disks = same-down d p q n fall.generation (shown g a) (shown g b) u st.disks;
    count = st.count ∙ ap length (sym u.disklog);
    doubt = says-same d p q n fall.head u.compacting (ap (λ (x : Known). x.doubt) u.node) st.doubt;
  }

  pub stands-unmoved : (d : DocumentData) (p q : List Act) (n : NodeId) (x : Place D g) → IsUnmoved d p q n →
      Stands d p n x → Stands d q n x
  stands-unmoved d p q n (Up x) u st = node-unmoved d p q n x u st
  stands-unmoved d p q n (Down a b fall) u st = fall-unmoved d p q n a b fall u st
