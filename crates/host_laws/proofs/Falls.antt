-- A node that stands and is crashed stands behind its stop, and one whose fuses are armed stands behind that.
use Rattle.std.proofs.Common.{◌≡◌, ◌≤◌, ℕ, List, [], ◌∷◌, length, Option, Some, None, refl, sym, ap, subst, ◌∙◌, arith}
use Rattle.std.proofs.lemmas.List.{length-reverse}
use Rattle.score_base.specs.declared.ids.NodeId.{NodeId}
use Rattle.score_disk.specs.declared.disk.Disk.{Ghosts}
use Rattle.journal_words.specs.Small.{AreAlike}
use Rattle.node_journal.specs.PairDisks.{first_of, last_of}
use Rattle.grid_model.specs.declared.acts.Act.{Act}
use Rattle.grid_model.specs.declared.acts.Act.TheVariants as act
use Rattle.grid_model.specs.Disks.{disklog}
use Rattle.grid_model.specs.Documents.{DocumentData}
use Rattle.grid_model.specs.Nodes.{journal}
use Rattle.grid_model.specs.Views.{View, view}
use Rattle.node_core.specs.declared.nodes.Node.{Node}
use Rattle.node_core.specs.Openings.{TellBoth}
use Rattle.node_core.specs.Shows.{Shows}
use Rattle.node_core.specs.Steps.{ShowsView}
use Rattle.disk_laws.specs.Calls.{HasCrashed, armed}
use Rattle.disk_laws.specs.Seats.{StandsUp, StandsDown, IsTurn, UpBehind, DownBehind}
use Rattle.disk_laws.specs.Shown.{Shown, shown, seats, first_seat, second_seat}
use Rattle.disk_laws.proofs.Downs.{crashes-down}
use Rattle.disk_laws.proofs.NodeActs.{DownLeaves, down-leaves}
use Rattle.disk_laws.proofs.Openings.{arms-down}
use Rattle.disk_laws.proofs.Ups.{arms-up}
use Rattle.view_laws.proofs.Unmoved.{view-by}
use Rattle.grid_hosts.specs.declared.falls.Fall.{Fall}
use Rattle.grid_hosts.specs.declared.hosts.Place.{Place}
use Rattle.grid_hosts.specs.declared.hosts.Place.TheVariants.{Up, Down}
use Rattle.grid_hosts.specs.Hosts.{IsCrashed, IsArmed, HasFuses, IsFused, Crashes, fall_of}
use Rattle.host_laws.specs.Standing.{FallStands, NodeStands, Stands}
use Rattle.host_laws.specs.Turns.{MovesDisks, turned, Turns}
use Rattle.host_laws.proofs.DiskWords.{first-is, last-is, both-tell, crashed-seat, crashed-tells, armed-seat, armed-tells, fused-seats, fused-tells}
use Rattle.host_laws.proofs.OtherNodes.{says-same}
use Rattle.host_laws.proofs.StepDisks.{from-seats, seats-rise}

-- the one act of an event, in which the disks of n did what they promise
pub one-moves : (d : DocumentData) (past : List Act) (n : NodeId) (a : Act) (first second first' second' : Shown)
    (t : IsTurn d past n a first second first' second') → MovesDisks d past (a ∷ []) n t.more
one-moves d past n a first second first' second' t = turned (record {
  front = [];
  turn = a;
  behind = [];
  are = refl;
  quiet_front = refl;
  quiet_behind = refl;
  own = t.own;
  promised = t.promised;
})

-- an arming leaves the view
armed-view : (d : DocumentData) (past : List Act) (n k how : ℕ) →
    view d (act.Armed n k how ∷ past) n ≡ view d past n
armed-view d past n k how = view-by d past (act.Armed n k how ∷ past) n refl (λ t home. refl)

module _ {D : Type 0} {g : Ghosts D} where
  -- ---- a crash

  crashed-disks : (d : DocumentData) (past : List Act) (n : NodeId) (x : Node D g) (one two : D) →
      NodeStands d past n x → IsCrashed g (first_of x.pair) one → IsCrashed g (last_of x.pair) two →
      DownBehind d past n (act.Down n None) x.pair.number (first_seat (seats x.pair)) (second_seat (seats x.pair))
      (shown g one) (shown g two)
  crashed-disks d past n x one two st one_is two_is =
      let tell : TellBoth g (first_of x.pair) (last_of x.pair) = both-tell x.pair st.tells in
      crashes-down d past n x.pair.number (seats x.pair) (shown g one) (shown g two) st.disks
      (subst (λ s. HasCrashed s (shown g one)) (sym (first-is x.pair))
      (crashed-seat (first_of x.pair) one one_is tell.0))
      (subst (λ s. HasCrashed s (shown g two)) (sym (last-is x.pair))
      (crashed-seat (last_of x.pair) two two_is tell.1))

  crashed-stands : (d : DocumentData) (past : List Act) (n : NodeId) (x : Node D g) (one two : D) →
      NodeStands d past n x → IsCrashed g (first_of x.pair) one → IsCrashed g (last_of x.pair) two →
      StandsDown d (act.Down n None ∷ past) n x.pair.number (shown g one) (shown g two) →
      FallStands g d (act.Down n None ∷ past) n one two (fall_of x None)
  crashed-stands d past n x one two st one_is two_is disks =
      let tell : TellBoth g (first_of x.pair) (last_of x.pair) = both-tell x.pair st.tells in
      let l : DownLeaves d past n None = down-leaves d past n None in
      record {
        tells_first = crashed-tells (first_of x.pair) one one_is tell.0;
        tells_second = crashed-tells (last_of x.pair) two two_is tell.1;
        disks = disks;
        count = ap length st.list ∙ length-reverse (disklog d past n) ∙ ap length (sym l.disklog_is);
        doubt = (l.compacting_is, l.doubt_is);
      }

  pub crash-turns : (d : DocumentData) (past : List Act) (n : NodeId) (x : Node D g) (q : Place D g) →
      NodeStands d past n x → Crashes (Up x) q → Turns d past (act.Down n None ∷ []) n (Up x) q
  crash-turns d past n x q st f =
      let b : DownBehind d past n (act.Down n None) x.pair.number (first_seat (seats x.pair))
      (second_seat (seats x.pair)) (shown g f.one) (shown g f.two) =
      crashed-disks d past n x f.one f.two st f.first_is f.second_is in
      subst (λ p. Turns d past (act.Down n None ∷ []) n (Up x) p) (sym f.place) (record {
        more = b.turn.more;
        moves = one-moves d past n (act.Down n None) (first_seat (seats x.pair)) (second_seat (seats x.pair))
            (shown g f.one) (shown g f.two) b.turn;
        rise = from-seats x.pair (g.own f.one) (g.own f.two) b.turn.more b.turn.rise;
        grown = omega arith;
        stands = crashed-stands d past n x f.one f.two st f.first_is f.second_is b.stands;
      })

  -- ---- an arming

  -- a node that has the store, the held reads and the desk of another shows the same view
  fused-shows : (left : Option ℕ) (x y : Node D g) (v : View) → HasFuses left x y → ShowsView x v → ShowsView y v
  fused-shows left x y v f shows =
      subst (λ s. Shows s y.waiting.reads y.desk v) (sym f.store)
      (subst (λ w. Shows x.store w.reads y.desk v) (sym f.waiting)
      (subst (λ k. Shows x.store x.waiting.reads k v) (sym f.desk) shows))

  armed-stands : (d : DocumentData) (past : List Act) (n k how : ℕ) (x y : Node D g) → NodeStands d past n x →
      HasFuses (Some k) x y → StandsUp d (act.Armed n k how ∷ past) n x.pair.number (seats y.pair) →
      NodeStands d (act.Armed n k how ∷ past) n y
  armed-stands d past n k how x y st f disks = record {
    number = ap (λ s. s.node) f.store ∙ st.number;
    cluster = ap (λ s. s.cluster) f.store ∙ st.cluster;
    alike = subst (λ s. AreAlike s.journal (journal d past n)) (sym f.store) st.alike;
    shows = subst (λ s. ShowsView y (record (view d (act.Armed n k how ∷ past) n) { journal = s.journal }))
        (sym f.store)
        (subst (λ (v : View). ShowsView y (record v { journal = x.store.journal }))
        (sym (armed-view d past n k how))
        (fused-shows (Some k) x y (record (view d past n) { journal = x.store.journal }) f st.shows));
    list = f.list ∙ st.list;
    tells = fused-tells (Some k) x y f st.tells;
    disks = subst (λ m. StandsUp d (act.Armed n k how ∷ past) n m (seats y.pair)) (sym f.number) disks;
  }

  armed-up : (d : DocumentData) (past : List Act) (n k how : ℕ) (x y : Node D g) → NodeStands d past n x → 1 ≤ k →
      HasFuses (Some k) x y → Turns d past (act.Armed n k how ∷ []) n (Up x) (Up y)
  armed-up d past n k how x y st live f =
      let b : UpBehind d past n (act.Armed n k how) x.pair.number (first_seat (seats x.pair))
      (second_seat (seats x.pair)) (seats y.pair) =
      subst (λ s. UpBehind d past n (act.Armed n k how) x.pair.number (first_seat (seats x.pair))
      (second_seat (seats x.pair)) s) (sym (fused-seats (Some k) x y f))
      (arms-up d past n x.pair.number k how (seats x.pair) st.disks live) in
      record {
        more = b.turn.more;
        moves = one-moves d past n (act.Armed n k how) (first_seat (seats x.pair)) (second_seat (seats x.pair))
            (first_seat (seats y.pair)) (second_seat (seats y.pair)) b.turn;
        rise = seats-rise x.pair y.pair b.turn.more b.turn.rise;
        grown = omega (arith, f.number);
        stands = armed-stands d past n k how x y st f b.stands;
      }

  armed-down : (d : DocumentData) (past : List Act) (n k how : ℕ) (first second one two : D) (fall : Fall) →
      FallStands g d past n first second fall → 1 ≤ k → IsArmed g (Some k) first one →
      IsArmed g (Some k) second two →
      Turns {g = g} d past (act.Armed n k how ∷ []) n (Down first second fall) (Down one two fall)
  armed-down d past n k how first second one two fall st live one_is two_is =
      let b : DownBehind d past n (act.Armed n k how) fall.generation (shown g first) (shown g second)
      (shown g one) (shown g two) =
      subst (λ s. DownBehind d past n (act.Armed n k how) fall.generation (shown g first) (shown g second) s
      (shown g two)) (sym (armed-seat (Some k) first one one_is))
      (subst (λ s. DownBehind d past n (act.Armed n k how) fall.generation (shown g first) (shown g second)
      (armed (Some k) (shown g first)) s) (sym (armed-seat (Some k) second two two_is))
      (arms-down d past n fall.generation k how (shown g first) (shown g second) st.disks live)) in
      record {
        more = b.turn.more;
        moves = one-moves d past n (act.Armed n k how) (shown g first) (shown g second) (shown g one) (shown g two)
            b.turn;
        rise = b.turn.rise;
        grown = omega arith;
        stands = record {
          tells_first = armed-tells (Some k) first one one_is st.tells_first;
          tells_second = armed-tells (Some k) second two two_is st.tells_second;
          disks = b.stands;
          count = st.count;
          doubt = says-same d past (act.Armed n k how ∷ past) n fall.head refl refl st.doubt;
        };
      }

  pub arm-turns : (d : DocumentData) (past : List Act) (n k how : ℕ) (p q : Place D g) → Stands d past n p → 1 ≤ k →
      IsFused (Some k) p q → Turns d past (act.Armed n k how ∷ []) n p q
  arm-turns d past n k how (Up x) (Up y) st live f = armed-up d past n k how x y st live f
  arm-turns d past n k how (Up x) (Down one two fall) st live f = absurd f
  arm-turns d past n k how (Down first second fall) (Up y) st live f = absurd f
  arm-turns d past n k how (Down first second fall) (Down one two fall') st live (one_is, two_is, same) =
      subst (λ z. Turns {g = g} d past (act.Armed n k how ∷ []) n (Down first second fall) (Down one two z)) (sym same)
      (armed-down d past n k how first second one two fall st live one_is two_is)
