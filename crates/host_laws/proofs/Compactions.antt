-- A node that stands and is compacted stands behind that, with no fuse armed, or behind its stop.
use Rattle.std.proofs.Common.{◌≡◌, ◌<◌, ◌≤◌, inl, inr, ℕ, ◌+◌, ◌-◌, ◌^◌, ◌==◌, true, false, List, [], ◌∷◌, length, reverse, Some, None, refl, sym, ap, subst, ◌∙◌, arith}
use Rattle.std.proofs.lemmas.Bool.Decides.{nat_tests}
use Rattle.std.proofs.lemmas.List.{length-reverse, reverse-reverse}
use Rattle.score_base.specs.declared.ids.NodeId.{NodeId}
use Rattle.score_base.specs.declared.records.Record.{Record}
use Rattle.score_disk.specs.declared.disk.Disk.{Ghosts}
use Rattle.journal_words.specs.Small.{AreAlike, small, small_in_time}
use Rattle.node_journal.specs.PairDisks.{last_of, list_of}
use Rattle.grid_model.specs.declared.acts.Act.{Act}
use Rattle.grid_model.specs.declared.acts.Act.TheVariants as act
use Rattle.grid_model.specs.declared.acts.Head.{Head}
use Rattle.grid_model.specs.declared.acts.Head.TheVariants as head
use Rattle.grid_model.specs.declared.events.Event.TheVariants as event
use Rattle.grid_model.specs.declared.events.Out.{Out}
use Rattle.grid_model.specs.Disks.{disklog, is_compacting}
use Rattle.grid_model.specs.Documents.{DocumentData}
use Rattle.grid_model.specs.NextViews.{next_view}
use Rattle.grid_model.specs.Nodes.{journal}
use Rattle.grid_model.specs.Rows.{compact_outs}
use Rattle.grid_model.specs.Schedules.{next_number, numbered}
use Rattle.grid_model.specs.Views.{View, view}
use Rattle.grid_model.proofs.ViewSteps.{here}
use Rattle.grid_store.specs.Given.{Given}
use Rattle.node_core.specs.declared.nodes.Node.{Node}
use Rattle.node_core.specs.Openings.{TellBoth}
use Rattle.node_core.specs.Steps.{row_of, last_generation, ShowsView, Compacts, IsDone, StoppedAt, StoppedSmall}
use Rattle.disk_laws.specs.Calls.{HasCompacted as HasCompactedSeats, WasCutSmall, both_armed}
use Rattle.disk_laws.specs.Seats.{StandsUp, UpBehind, DownBehind}
use Rattle.disk_laws.specs.Shown.{Shown, shown, seats, first_seat, second_seat}
use Rattle.disk_laws.specs.SoFar.{IsJointRise}
use Rattle.disk_laws.proofs.Downs.{small-down}
use Rattle.disk_laws.proofs.NodeActs.{compacted-disklog}
use Rattle.disk_laws.proofs.Ups.{compacts-up}
use Rattle.view_laws.proofs.SameRecords.{never-longer}
use Rattle.view_laws.proofs.ShownNext.{shown-next}
use Rattle.grid_hosts.specs.declared.hosts.Host.{Host}
use Rattle.grid_hosts.specs.declared.hosts.Place.{Place}
use Rattle.grid_hosts.specs.declared.hosts.Place.TheVariants.{Up, Down}
use Rattle.grid_hosts.specs.declared.steps.Ran.{Ran}
use Rattle.grid_hosts.specs.declared.steps.Ran.TheVariants.{Outs, Stopped, Memory}
use Rattle.grid_hosts.specs.Hosts.{IsCrashed, HasFuses, HasStopped, Runs, RunsAt, Disarms, Settles, HasCompacted, fall_of}
use Rattle.host_laws.specs.Standing.{NodeStands}
use Rattle.host_laws.specs.Turns.{turned, Turns, GivesRow, StopsRow, RanBehind}
use Rattle.host_laws.proofs.DiskWords.{first-is, last-is, compacted-seats, compacted-tells, crashed-seat, crashed-tells, fused-seats, fused-tells, small-seats, small-tells}
use Rattle.host_laws.proofs.StepDisks.{seats-rise}
use Rattle.host_laws.proofs.StepRows.{with-journal}
use Rattle.host_laws.proofs.StepStops.{stop-list}

-- ---- the row, and the list in time

not-last : (k : ℕ) → k < 2 ^ 64 - 1 → (k == last_generation) ≡ false
not-last k below = grind (arith, nat_tests, below)

compact-row : (n gen : ℕ) (v : View) → gen < 2 ^ 64 - 1 → row_of n gen v event.Compact ≡ compact_outs n
compact-row n gen v below = rw (not-last gen below) refl

small-list : (r list : List Record) → list ≡ reverse r → small_in_time list ≡ reverse (small r)
small-list r list is = ap small_in_time is ∙ ap (λ q. reverse (small q)) (reverse-reverse r)

module _ {D : Type 0} {g : Ghosts D} where
  -- ---- a compaction that went on

  -- the outs are those of the row
  compact-outs : (d : DocumentData) (past : List Act) (n : NodeId) (x mid : Node D g) (outs : List Out) →
      NodeStands d past n x → x.pair.number < 2 ^ 64 - 1 → IsDone x event.Compact mid outs → outs ≡ compact_outs n
  compact-outs d past n x mid outs st below done =
      let v : View = with-journal (view d past n) x.store.journal in
      done.row v st.shows ∙ compact-row x.store.node x.pair.number v below ∙ ap compact_outs st.number

  -- what it leaves of the node but for its fuses
  compacts : (x mid : Node D g) (outs : List Out) → x.pair.number < 2 ^ 64 - 1 → IsDone x event.Compact mid outs →
      Compacts false x mid
  compacts x mid outs below done = subst (λ b. Compacts b x mid) (not-last x.pair.number below) done.moves

  -- the disks behind it, with no fuse armed
  compacted-disks : (d : DocumentData) (past : List Act) (n : NodeId) (x mid : Node D g) → NodeStands d past n x →
      Compacts false x mid →
      UpBehind d past n (act.Compacted n) (x.pair.number + 1) (first_seat (seats x.pair)) (second_seat (seats x.pair))
      (both_armed None (seats mid.pair))
  compacted-disks d past n x mid st c =
      compacts-up d past n x.pair.number (seats x.pair) (seats mid.pair) st.disks
      (subst (λ r. HasCompactedSeats r x.pair.number (seats x.pair) (seats mid.pair)) st.list
      (compacted-seats x.pair mid.pair c.disks st.tells))

  -- the view that the node shows behind it
  compacted-shows : (d : DocumentData) (past : List Act) (n : NodeId) (x mid : Node D g) (outs : List Out) →
      NodeStands d past n x → x.pair.number < 2 ^ 64 - 1 → IsDone x event.Compact mid outs → Compacts false x mid →
      ShowsView mid (with-journal (view d (act.Compacted n ∷ past) n) mid.store.journal)
  compacted-shows d past n x mid outs st below done c =
      let r : List Record = x.store.journal in
      let v : View = with-journal (view d past n) r in
      let shown = shown-next d past n 0 (next_number past) event.Compact r None tt st.alike refl in
      subst (λ j. ShowsView mid (with-journal (view d (act.Compacted n ∷ past) n) j)) (sym c.same.store.journal)
      (subst (ShowsView mid) shown.view
      (subst (λ os. ShowsView mid (next_view n v event.Compact os)) (compact-outs d past n x mid outs st below done)
      (subst (λ k. ShowsView mid (next_view k v event.Compact outs)) st.number (done.view v st.shows))))

  compacted-alike : (d : DocumentData) (past : List Act) (n : NodeId) (x mid : Node D g) → NodeStands d past n x →
      Compacts false x mid → AreAlike mid.store.journal (journal d (act.Compacted n ∷ past) n)
  compacted-alike d past n x mid st c =
      subst (λ j. AreAlike j (journal d (act.Compacted n ∷ past) n)) (sym c.same.store.journal) st.alike

  -- a node whose fuses alone are other shows the same
  fused-shows : (x y : Node D g) (v : View) → HasFuses None x y → ShowsView x (with-journal v x.store.journal) →
      ShowsView y (with-journal v y.store.journal)
  fused-shows x y v f shows = rw (f.store, f.waiting, f.desk) shows

  compacted-stands : (d : DocumentData) (past : List Act) (n : NodeId) (x mid y : Node D g) (outs : List Out) →
      NodeStands d past n x → x.pair.number < 2 ^ 64 - 1 → IsDone x event.Compact mid outs → Compacts false x mid →
      HasFuses None mid y → StandsUp d (act.Compacted n ∷ past) n (x.pair.number + 1) (both_armed None (seats mid.pair)) →
      NodeStands d (act.Compacted n ∷ past) n y
  compacted-stands d past n x mid y outs st below done c f disks = record {
    number = ap (λ (s : Given). s.node) f.store ∙ done.node ∙ st.number;
    cluster = ap (λ (s : Given). s.cluster) f.store ∙ done.cluster ∙ st.cluster;
    alike = subst (λ (s : Given). AreAlike s.journal (journal d (act.Compacted n ∷ past) n)) (sym f.store)
        (compacted-alike d past n x mid st c);
    shows = fused-shows mid y (view d (act.Compacted n ∷ past) n) f
        (compacted-shows d past n x mid outs st below done c);
    list = f.list
        ∙ c.disks.list
        ∙ small-list (disklog d past n) (list_of x.pair) st.list
        ∙ ap reverse (sym (compacted-disklog d past n));
    tells = fused-tells None mid y f (compacted-tells x.pair mid.pair c.disks st.tells);
    disks = subst (λ k. StandsUp d (act.Compacted n ∷ past) n k (seats y.pair)) (sym (f.number ∙ c.disks.number))
        (subst (StandsUp d (act.Compacted n ∷ past) n (x.pair.number + 1)) (sym (fused-seats None mid y f)) disks);
  }

  gives-compacted : (d : DocumentData) (past : List Act) (n : NodeId) (x mid y : Node D g) (outs : List Out) →
      NodeStands d past n x → x.pair.number < 2 ^ 64 - 1 → IsDone x event.Compact mid outs → HasFuses None mid y →
      GivesRow d past n 0 event.Compact (Up x) (Up y) outs
  gives-compacted d past n x mid y outs st below done f =
      let c : Compacts false x mid = compacts x mid outs below done in
      let row : outs ≡ compact_outs n = compact-outs d past n x mid outs st below done in
      let b = compacted-disks d past n x mid st c in
      record {
        row = row;
        turns = subst (λ os. Turns d past (numbered (next_number past) n os) n (Up x) (Up y)) (sym row) (record {
          more = b.turn.more;
          moves = turned (record {
            front = [];
            turn = act.Compacted n;
            behind = [];
            are = refl;
            quiet_front = refl;
            quiet_behind = refl;
            own = b.turn.own;
            promised = b.turn.promised;
          });
          rise = seats-rise x.pair y.pair b.turn.more
              (subst (λ s. IsJointRise (first_seat (seats x.pair)).own (second_seat (seats x.pair)).own
              (first_seat s).own (second_seat s).own b.turn.more) (sym (fused-seats None mid y f)) b.turn.rise);
          grown = grow (f.number ∙ c.disks.number);
          stands = compacted-stands d past n x mid y outs st below done c f b.stands;
        });
      }
    where
      grow : y.pair.number ≡ x.pair.number + 1 → y.pair.number ≤ x.pair.number + 1
      grow is = omega (arith, is)

  -- ---- a stop in a compaction

  -- a compaction writes no record
  never-record : (x : Node D g) (v : View) (y : Record) (first second : D) → ShowsView x (with-journal v x.store.journal) →
      StoppedAt x event.Compact y first second → ⊥
  never-record x v y first second shows s =
      never-longer y x.store.journal (s.row (with-journal v x.store.journal) shows)

  -- the disks behind the stop
  small-disks : (d : DocumentData) (past : List Act) (n : NodeId) (x : Node D g) (first second one two : D) →
      NodeStands d past n x → StoppedSmall x first second → IsCrashed g first one → IsCrashed g second two →
      DownBehind d past n (act.Down n (Some head.Compact)) x.pair.number (first_seat (seats x.pair))
      (second_seat (seats x.pair)) (shown g one) (shown g two)
  small-disks d past n x first second one two st s one_is two_is =
      let tell : TellBoth g first second = small-tells x first second s st.tells in
      small-down d past n x.pair.number (seats x.pair) (shown g first) (shown g second) (shown g one) (shown g two)
      st.disks
      (subst (λ r. WasCutSmall r x.pair.number (seats x.pair) (shown g first) (shown g second)) st.list
      (small-seats x first second s st.tells)) (crashed-seat first one one_is tell.0)
      (crashed-seat second two two_is tell.1)

  stops-small : (d : DocumentData) (past : List Act) (n : NodeId) (x : Node D g) (first second one two : D) →
      NodeStands d past n x → StoppedSmall x first second → IsCrashed g first one → IsCrashed g second two →
      StopsRow d past n 0 event.Compact (Up x) (Down one two (fall_of x (Some head.Compact))) head.Compact
  stops-small d past n x first second one two st s one_is two_is =
      let tell : TellBoth g first second = small-tells x first second s st.tells in
      let b : DownBehind d past n (act.Down n (Some head.Compact)) x.pair.number (first_seat (seats x.pair))
      (second_seat (seats x.pair)) (shown g one) (shown g two) =
      small-disks d past n x first second one two st s one_is two_is in
      let small : is_compacting (act.Down n (Some head.Compact) ∷ past) n ≡ true = rw (here n) refl in
      record {
        row = refl;
        turns = record {
          more = b.turn.more;
          moves = turned (record {
            front = [];
            turn = act.Down n (Some head.Compact);
            behind = [];
            are = refl;
            quiet_front = refl;
            quiet_behind = refl;
            own = b.turn.own;
            promised = b.turn.promised;
          });
          rise =
              subst (λ (a : Shown). IsJointRise a.own (g.own (last_of x.pair)) (g.own one) (g.own two) b.turn.more)
              (first-is x.pair)
              (subst
              (λ (a : Shown).
              IsJointRise (first_seat (seats x.pair)).own a.own (g.own one) (g.own two) b.turn.more)
              (last-is x.pair) b.turn.rise);
          grown = omega arith;
          stands = record {
            tells_first = crashed-tells first one one_is tell.0;
            tells_second = crashed-tells second two two_is tell.1;
            disks = b.stands;
            count =
                ap length st.list
                ∙ length-reverse (disklog d past n)
                ∙ ap length (sym (stop-list d past n head.Compact));
            doubt = small;
          };
        };
      }

  stops-compact : (d : DocumentData) (past : List Act) (n : NodeId) (x : Node D g) (q : Place D g) (h : Head) →
      NodeStands d past n x → HasStopped x event.Compact h q → StopsRow d past n 0 event.Compact (Up x) q h
  stops-compact d past n x q h st s =
      let f = s.falls in
      subst (λ p. StopsRow d past n 0 event.Compact (Up x) p h) (sym f.place) (elim s.down [
        | inl (y, named, at) ↦ absurd (never-record x (view d past n) y s.first s.second st.shows at)
        | inr (compact, named, at) ↦
            subst (λ k. StopsRow d past n 0 event.Compact (Up x) (Down f.one f.two (fall_of x (Some k))) k) (sym named)
            (stops-small d past n x s.first s.second f.one f.two st at f.first_is f.second_is)
      ])

  -- ---- how a compaction ends

  -- where it stands behind its fuses were disarmed, if it went on
  abbrev Ends : Ran → Place D g → Place D g → Type 0
  Ends (Outs outs) p q = Disarms p q
  Ends r p q = q ≡ p

  ends : (r : Ran) (mid now : Host D g) → Settles r mid now → Ends r mid.place now.place
  ends (Outs outs) mid now s = s.place
  ends (Stopped h) mid now s = ap (λ (m : Host D g). m.place) s
  ends Memory mid now s = ap (λ (m : Host D g). m.place) s

  ends-behind : (d : DocumentData) (past : List Act) (n : NodeId) (x : Node D g) (p q : Place D g) (r : Ran) →
      NodeStands d past n x → x.pair.number < 2 ^ 64 - 1 → Runs x event.Compact p r → Ends r p q →
      RanBehind d past n 0 event.Compact (Up x) q r
  ends-behind d past n x (Up mid) (Up y) (Outs outs) st below is f =
      gives-compacted d past n x mid y outs.items st below is f
  ends-behind d past n x (Up mid) (Down a b fall) (Outs outs) st below is f = absurd f
  ends-behind d past n x (Down a b fall) q (Outs outs) st below is f = absurd is
  ends-behind d past n x (Up mid) q (Stopped h) st below is f =
      subst (λ p. StopsRow d past n 0 event.Compact (Up x) p h) (sym f) (stops-compact d past n x (Up mid) h st is)
  ends-behind d past n x (Down a b fall) q (Stopped h) st below is f =
      subst (λ p. StopsRow d past n 0 event.Compact (Up x) p h) (sym f)
      (stops-compact d past n x (Down a b fall) h st is)
  ends-behind d past n x p q Memory st below is f = tt

  pub compacts-behind : (d : DocumentData) (past : List Act) (n : NodeId) (x : Node D g) (h now : Host D g) (r : Ran) →
      NodeStands d past n x → x.pair.number < 2 ^ 64 - 1 → h.place ≡ Up x → HasCompacted h now r →
      RanBehind d past n 0 event.Compact (Up x) now.place r
  compacts-behind d past n x h now r st below at c =
      ends-behind d past n x c.mid.place now.place r st below
      (subst (λ p. RunsAt p event.Compact c.mid.place r) at c.run.runs) (ends r c.mid now c.behind)
