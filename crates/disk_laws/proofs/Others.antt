-- Acts in which the disks of n have no part leave what stands of them.
use Rattle.std.proofs.Common.{◌≡◌, ◌≢◌, ℕ, ◌+◌, true, false, IsTrue, List, ◌∷◌, ◌++◌, reverse, sym, ap, subst, ◌∙◌}
use Rattle.std.specs.List.{list_all}
use Rattle.score_base.specs.declared.ids.NodeId.{NodeId}
use Rattle.journal_words.specs.Small.{small}
use Rattle.grid_model.specs.declared.acts.Act.{Act}
use Rattle.grid_model.specs.Documents.{DocumentData}
use Rattle.grid_model.specs.Fuses.{lets_found}
use Rattle.disk_laws.specs.Shown.{Shown, Seats, HasLog, AreAtRest}
use Rattle.disk_laws.specs.Ties.{IsTied, is_fresh}
use Rattle.disk_laws.specs.Seats.{StandsUp, StandsDown, HoldsLog, standing, in_doubt, compacting, IsPlain, StandsNew, IsTurn}
use Rattle.grid_model.specs.Histories.{after}
use Rattle.disk_laws.specs.DiskActs.{is_quiet, is_of_disk, IsDiskEvent}
use Rattle.disk_laws.proofs.Unmoved.{Unmoved, unmoved-all, unmoved-other, another}
use Rattle.disk_laws.proofs.Steps.{after-append, other-unmoved}

plain-unmoved : (d : DocumentData) (p q : List Act) (n number : ℕ) → Unmoved d p q n → IsPlain d p n number →
    IsPlain d q n number
plain-unmoved d p q n number u plain zero = u.disklog_is ∙ plain zero ∙ sym u.journal_is

pub up-unmoved : (d : DocumentData) (p q : List Act) (n number : ℕ) (s : Seats) → Unmoved d p q n →
    StandsUp d p n number s → StandsUp d q n number s
up-unmoved d p q n number s u st = record {
  up = u.up_is ∙ st.up;
  rest = subst (λ r. AreAtRest (reverse r) number s) (sym u.disklog_is) st.rest;
  tied = subst (λ x. IsTied x s.live.left s.other.left) (sym u.fuse_is) st.tied;
  plain = plain-unmoved d p q n number u st.plain;
}

holds-unmoved : (d : DocumentData) (p q : List Act) (n number : ℕ) (a b : List ℕ) → Unmoved d p q n →
    HoldsLog d p n number a b → HoldsLog d q n number a b
holds-unmoved d p q n number a b u (standing is) = standing
    (subst (λ r. HasLog (reverse r) number a b) (sym u.disklog_is) is)
holds-unmoved d p q n number a b u (in_doubt last not_small doubt lets is) =
    in_doubt last (u.compacting_is ∙ not_small) (u.doubt_is ∙ doubt) (ap (lets_found false) u.stop_is ∙ lets)
    (subst (λ r. HasLog (reverse (last ∷ r)) number a b) (sym u.disklog_is) is)
holds-unmoved d p q n number a b u (compacting is_small lets is) =
    compacting (u.compacting_is ∙ is_small) (ap (lets_found true) u.stop_is ∙ lets)
    (subst (λ r. HasLog (reverse (small r)) (number + 1) a b) (sym u.disklog_is) is)

pub down-unmoved : (d : DocumentData) (p q : List Act) (n number : ℕ) (first second : Shown) → Unmoved d p q n →
    StandsDown d p n number first second → StandsDown d q n number first second
down-unmoved d p q n number first second u st = record {
  down = u.up_is ∙ st.down;
  first_settled = st.first_settled;
  second_settled = st.second_settled;
  holds = holds-unmoved d p q n number first.file.seen second.file.seen u st.holds;
  tied = subst (λ x. IsTied x first.left second.left) (sym u.fuse_is) st.tied;
  fresh = ap is_fresh u.fuse_is ∙ st.fresh;
  plain = plain-unmoved d p q n number u st.plain;
}

pub new-unmoved : (d : DocumentData) (p q : List Act) (n : NodeId) (first second : Shown) → Unmoved d p q n →
    StandsNew d p n first second → StandsNew d q n first second
new-unmoved d p q n first second u st = record {
  stands = down-unmoved d p q n 0 first second u st.stands;
  sure = u.doubt_is ∙ st.sure;
  uncompacted = u.compacting_is ∙ st.uncompacted;
  unarmed = u.fuse_is ∙ st.unarmed;
}

-- ---- one act of other disks

act-unmoved : (d : DocumentData) (p : List Act) (a : Act) (m n : NodeId) → IsTrue (is_of_disk d m a) → m ≢ n →
    Unmoved d p (a ∷ p) n
act-unmoved d p a m n own other = unmoved-other d p a m n own (another d a m n own other)

pub up-other : (d : DocumentData) (p : List Act) (a : Act) (m n number : ℕ) (s : Seats) → IsTrue (is_of_disk d m a) →
    m ≢ n → StandsUp d p n number s → StandsUp d (a ∷ p) n number s
up-other d p a m n number s own other st = up-unmoved d p (a ∷ p) n number s (act-unmoved d p a m n own other) st

pub down-other : (d : DocumentData) (p : List Act) (a : Act) (m n number : ℕ) (first second : Shown) →
    IsTrue (is_of_disk d m a) → m ≢ n → StandsDown d p n number first second →
    StandsDown d (a ∷ p) n number first second
down-other d p a m n number first second own other st = down-unmoved d p (a ∷ p) n number first second
    (act-unmoved d p a m n own other) st

pub new-other : (d : DocumentData) (p : List Act) (a : Act) (m n : ℕ) (first second : Shown) →
    IsTrue (is_of_disk d m a) → m ≢ n → StandsNew d p n first second → StandsNew d (a ∷ p) n first second
new-other d p a m n first second own other st = new-unmoved d p (a ∷ p) n first second
    (act-unmoved d p a m n own other) st

-- ---- acts in which no disk has a part

pub up-quiet : (d : DocumentData) (p acts : List Act) (n number : ℕ) (s : Seats) → IsTrue (list_all is_quiet acts) →
    StandsUp d p n number s → StandsUp d (after p acts) n number s
up-quiet d p acts n number s quiet st = up-unmoved d p (after p acts) n number s (unmoved-all d p acts n quiet) st

pub down-quiet : (d : DocumentData) (p acts : List Act) (n number : ℕ) (first second : Shown) →
    IsTrue (list_all is_quiet acts) → StandsDown d p n number first second →
    StandsDown d (after p acts) n number first second
down-quiet d p acts n number first second quiet st = down-unmoved d p (after p acts) n number first second
    (unmoved-all d p acts n quiet) st

-- ---- an event

pub up-event : (d : DocumentData) (p acts : List Act) (m n more number : ℕ) (s : Seats) →
    IsDiskEvent d p acts m more → m ≢ n → StandsUp d p n number s → StandsUp d (after p acts) n number s
up-event d p acts m n more number s is other st = up-unmoved d p (after p acts) n number s
    (other-unmoved d p acts m n more is other) st

pub down-event : (d : DocumentData) (p acts : List Act) (m n more number : ℕ) (first second : Shown) →
    IsDiskEvent d p acts m more → m ≢ n → StandsDown d p n number first second →
    StandsDown d (after p acts) n number first second
down-event d p acts m n more number first second is other st =
    down-unmoved d p (after p acts) n number first second (other-unmoved d p acts m n more is other) st

behind-unmoved : (d : DocumentData) (p acts : List Act) (n more : ℕ) (is : IsDiskEvent d p acts n more) →
    Unmoved d (is.turn ∷ after p is.front) (after p acts) n
behind-unmoved d p acts n more is = rw (is.are, after-append p is.front (is.turn ∷ is.behind))
    (unmoved-all d (is.turn ∷ after p is.front) is.behind n is.quiet_behind)

pub up-behind : (d : DocumentData) (p acts : List Act) (n more number : ℕ) (s : Seats)
    (is : IsDiskEvent d p acts n more) → StandsUp d (is.turn ∷ after p is.front) n number s →
    StandsUp d (after p acts) n number s
up-behind d p acts n more number s is st = up-unmoved d (is.turn ∷ after p is.front) (after p acts) n number s
    (behind-unmoved d p acts n more is) st

pub down-behind : (d : DocumentData) (p acts : List Act) (n more number : ℕ) (first second : Shown)
    (is : IsDiskEvent d p acts n more) → StandsDown d (is.turn ∷ after p is.front) n number first second →
    StandsDown d (after p acts) n number first second
down-behind d p acts n more number first second is st = down-unmoved d (is.turn ∷ after p is.front) (after p acts) n
    number first second (behind-unmoved d p acts n more is) st

pub turn-event : (d : DocumentData) (p acts front behind : List Act) (a : Act) (n : NodeId)
    (first second first' second' : Shown) → acts ≡ front ++ a ∷ behind → IsTrue (list_all is_quiet front) →
    IsTrue (list_all is_quiet behind) → (t : IsTurn d (after p front) n a first second first' second') →
    IsDiskEvent d p acts n t.more
turn-event d p acts front behind a n first second first' second' are before later t = record {
  front = front;
  turn = a;
  behind = behind;
  are = are;
  quiet_front = before;
  quiet_behind = later;
  own = t.own;
  promised = t.promised;
}
