-- A node that stands and goes down while a record is written stops in its row, and stands behind its stop.
use Rattle.std.proofs.Common.{◌≡◌, inl, inr, ℕ, true, false, IsTrue, is_some, List, [], ◌∷◌, ◌++◌, length, reverse, Some, refl, sym, ap, subst, ◌∙◌, arith}
use Rattle.std.proofs.lemmas.List.{length-reverse}
use Rattle.std.specs.List.{list_all}
use Rattle.score_base.specs.declared.ids.NodeId.{NodeId}
use Rattle.score_base.specs.declared.records.Record.{Record}
use Rattle.score_base.specs.declared.records.Record.TheVariants as record'
use Rattle.score_disk.specs.declared.disk.Disk.{Ghosts}
use Rattle.node_journal.specs.PairDisks.{last_of, list_of}
use Rattle.grid_model.specs.declared.acts.Act.{Act}
use Rattle.grid_model.specs.declared.acts.Act.TheVariants as act
use Rattle.grid_model.specs.declared.acts.Head.{Head}
use Rattle.grid_model.specs.declared.events.Event.{Event}
use Rattle.grid_model.specs.declared.events.Event.TheVariants as event
use Rattle.grid_model.specs.Disks.{disklog, is_compact, is_compacting}
use Rattle.grid_model.specs.Documents.{DocumentData}
use Rattle.grid_model.specs.Histories.{after}
use Rattle.grid_model.specs.NextViews.{Comes, next_view}
use Rattle.grid_model.specs.Nodes.{got, journal, node, record_of}
use Rattle.grid_model.specs.Rows.{outs_of}
use Rattle.grid_model.specs.Views.{View, view}
use Rattle.grid_model.proofs.ViewSteps.{here}
use Rattle.node_core.specs.declared.nodes.Node.{Node}
use Rattle.node_core.specs.Heads.{head_of}
use Rattle.node_core.specs.Openings.{TellBoth}
use Rattle.node_core.specs.Steps.{IsCut, StoppedAt}
use Rattle.disk_laws.specs.Calls.{WasCut}
use Rattle.disk_laws.specs.DiskActs.{is_quiet}
use Rattle.disk_laws.specs.Seats.{DownBehind}
use Rattle.disk_laws.specs.Shown.{Shown, shown, seats, first_seat, second_seat}
use Rattle.disk_laws.specs.SoFar.{IsJointRise}
use Rattle.disk_laws.proofs.Downs.{cut-down}
use Rattle.disk_laws.proofs.Others.{up-quiet}
use Rattle.disk_laws.proofs.Unmoved.{unmoved-all}
use Rattle.grid_model.proofs.EventShapes.{after-append}
use Rattle.view_laws.specs.RowActs.{came}
use Rattle.view_laws.specs.RowRecords.{journal_behind}
use Rattle.view_laws.proofs.RowTurns.{came-quiet}
use Rattle.view_laws.proofs.SameRecords.{doubt-stands, same-record, stop-row}
use Rattle.grid_hosts.specs.declared.hosts.Place.{Place}
use Rattle.grid_hosts.specs.declared.hosts.Place.TheVariants.{Up, Down}
use Rattle.grid_hosts.specs.Hosts.{IsCrashed, HasStopped, fall_of}
use Rattle.host_laws.specs.Standing.{SaysDoubt, FallStands, NodeStands}
use Rattle.host_laws.specs.Turns.{turned, StopsRow}
use Rattle.host_laws.proofs.DiskWords.{first-is, last-is, cut-seats, cut-tells, crashed-seat, crashed-tells}
use Rattle.host_laws.proofs.StepDisks.{quiet-acts}
use Rattle.host_laws.proofs.StepRows.{came-past}

-- ---- what is known of a stop in a record

not-compact : (x : Record) → is_compact (Some (head_of x)) ≡ false
not-compact (record'.Prepared t home parts sid p reads writes) = refl
not-compact (record'.Ended t o) = refl
not-compact (record'.Ceiling c) = refl
not-compact (record'.Decided t f parts) = refl
not-compact (record'.Closed t) = refl

says-record : (d : DocumentData) (past : List Act) (n : NodeId) (x : Record) → is_compacting past n ≡ false →
    is_some (node d past n).doubt ≡ true → SaysDoubt d past n (Some (head_of x))
says-record d past n (record'.Prepared t home parts sid p reads writes) small doubt = (small, doubt)
says-record d past n (record'.Ended t o) small doubt = (small, doubt)
says-record d past n (record'.Ceiling c) small doubt = (small, doubt)
says-record d past n (record'.Decided t f parts) small doubt = (small, doubt)
says-record d past n (record'.Closed t) small doubt = (small, doubt)

-- the record in doubt behind a stop at its head is the one that was meant
stop-meant : (d : DocumentData) (past : List Act) (n : NodeId) (h : Head) (x : Record) →
    (node d (act.Down n (Some h) ∷ past) n).doubt ≡ Some x → record_of d (got past) h ≡ Some x
stop-meant d past n h x is =
    let named : (node d (act.Down n (Some h) ∷ past) n).doubt ≡ record_of d (got past) h = rw (here n) refl in
    sym named ∙ is

pub stop-list : (d : DocumentData) (past : List Act) (n : NodeId) (h : Head) →
    disklog d (act.Down n (Some h) ∷ past) n ≡ disklog d past n
stop-list d past n h = rw (here n) refl

module _ {D : Type 0} {g : Ghosts D} where
  -- the record of the row is the one that was being written
  stopped-record : (d : DocumentData) (past : List Act) (n : NodeId) (e : Event) (y : Record)
      (x : Node D g) (first second : D) → NodeStands d past n x → StoppedAt x e y first second →
      journal_behind n (view d past n) e ≡ y ∷ journal d past n
  stopped-record d past n e y x first second st s =
      let r : List Record = x.store.journal in
      let v : View = record (view d past n) { journal = r } in
      same-record n (view d past n) r e y st.alike
      (subst (λ k. (next_view k v e (outs_of k v e)).journal ≡ y ∷ r) st.number (s.row v st.shows))

  -- the disks behind the stop
  stopped-disks : (d : DocumentData) (past front : List Act) (n : NodeId) (h : Head) (y : Record)
      (x : Node D g) (first second one two : D) → IsTrue (list_all is_quiet front) →
      NodeStands d past n x → record_of d (got (after past front)) h ≡ Some y → IsCut x.pair y first second →
      IsCrashed g first one → IsCrashed g second two →
      DownBehind d (after past front) n (act.Down n (Some h)) x.pair.number (first_seat (seats x.pair))
      (second_seat (seats x.pair)) (shown g one) (shown g two)
  stopped-disks d past front n h y x first second one two silent st meant cut one_is two_is =
      let there : List Act = after past front in
      let tell : TellBoth g first second = cut-tells x.pair y first second cut st.tells in
      let same : list_of x.pair ≡ reverse (disklog d there n) =
      st.list ∙ ap reverse (sym (unmoved-all d past front n silent).disklog_is) in
      cut-down d there n x.pair.number h y (seats x.pair) (shown g first) (shown g second) (shown g one) (shown g two)
      (up-quiet d past front n x.pair.number (seats x.pair) silent st.disks) meant
      (subst (λ r. WasCut r y x.pair.number (seats x.pair) (shown g first) (shown g second)) same
      (cut-seats x.pair y first second cut st.tells)) (crashed-seat first one one_is tell.0)
      (crashed-seat second two two_is tell.1)

  stops-at : (d : DocumentData) (past : List Act) (n : NodeId) (m : ℕ) (e : Event) (y : Record)
      (x : Node D g) (first second one two : D) → NodeStands d past n x → Comes d past n m e →
      StoppedAt x e y first second → IsCrashed g first one → IsCrashed g second two →
      StopsRow d past n m e (Up x) (Down one two (fall_of x (Some (head_of y)))) (head_of y)
  stops-at d past n m e y x first second one two st comes s one_is two_is =
      let wrote : journal_behind n (view d past n) e ≡ y ∷ journal d past n =
      stopped-record d past n e y x first second st s in
      let h : Head = head_of y in
      let front : List Act = came m e in
      let silent : IsTrue (list_all is_quiet front) = quiet-acts front (came-quiet m e) in
      let there : List Act = after past front in
      let acts : List Act = front ++ act.Down n (Some h) ∷ [] in
      let doubt : (node d (act.Down n (Some h) ∷ there) n).doubt ≡ Some y =
      subst (λ k. (node d (act.Down n (Some h) ∷ k) n).doubt ≡ Some y) (sym (came-past past m e))
      (doubt-stands d past n m e y comes wrote) in
      let b : DownBehind d there n (act.Down n (Some h)) x.pair.number (first_seat (seats x.pair))
      (second_seat (seats x.pair)) (shown g one) (shown g two) =
      stopped-disks d past front n h y x first second one two silent st
      (stop-meant d there n h y doubt) s.disks one_is two_is in
      let tell : TellBoth g first second = cut-tells x.pair y first second s.disks st.tells in
      let now : after past acts ≡ act.Down n (Some h) ∷ there = after-append past front (act.Down n (Some h) ∷ []) in
      let small : is_compacting (act.Down n (Some h) ∷ there) n ≡ false = rw (here n) (not-compact y) in
      record {
        row = stop-row n (view d past n) e y wrote;
        turns = record {
          more = b.turn.more;
          moves = turned (record {
            front = front;
            turn = act.Down n (Some h);
            behind = [];
            are = refl;
            quiet_front = silent;
            quiet_behind = refl;
            own = b.turn.own;
            promised = b.turn.promised;
          });
          rise =
              subst (λ (a : Shown). IsJointRise a.own (g.own (last_of x.pair)) (g.own one) (g.own two) b.turn.more)
              (first-is x.pair)
              (subst
              (λ (a : Shown).
              IsJointRise (first_seat (seats x.pair)).own a.own (g.own one) (g.own two) b.turn.more)
              (last-is x.pair) b.turn.rise);
          grown = omega arith;
          stands = subst (λ k. FallStands g d k n one two (fall_of x (Some h))) (sym now) (record {
            tells_first = crashed-tells first one one_is tell.0;
            tells_second = crashed-tells second two two_is tell.1;
            disks = b.stands;
            count =
                ap length st.list
                ∙ length-reverse (disklog d past n)
                ∙ ap length (sym (stop-list d there n h ∙ (unmoved-all d past front n silent).disklog_is));
            doubt = says-record d (act.Down n (Some h) ∷ there) n y small (ap is_some doubt);
          });
        };
      }

  pub stops-row : (d : DocumentData) (past : List Act) (n : NodeId) (m : ℕ) (e : Event)
      (x : Node D g) (q : Place D g) (h : Head) → NodeStands d past n x → Comes d past n m e →
      (e ≡ event.Compact → ⊥) → HasStopped x e h q → StopsRow d past n m e (Up x) q h
  stops-row d past n m e x q h st comes other s =
      let f = s.falls in
      subst (λ p. StopsRow d past n m e (Up x) p h) (sym f.place) (elim s.down [
        | inl (y, named, at) ↦
            subst (λ k. StopsRow d past n m e (Up x) (Down f.one f.two (fall_of x (Some k))) k) (sym named)
            (stops-at d past n m e y x s.first s.second f.one f.two st comes at f.first_is f.second_is)
        | inr (compact, named, at) ↦ absurd (other compact)
      ])
