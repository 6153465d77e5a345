-- A node that stands gives the outs of its row at an event, and stands behind their acts.
use Rattle.std.proofs.Common.{◌≡◌, ◌≤◌, ℕ, ◌+◌, true, List, ◌++◌, reverse, Option, Some, None, refl, sym, ap, subst, ◌∙◌, arith}
use Rattle.std.proofs.lemmas.List.{append_cancel_right}
use Rattle.score_base.specs.declared.ids.NodeId.{NodeId}
use Rattle.score_base.specs.declared.records.Record.{Record}
use Rattle.score_disk.specs.declared.disk.Disk.{Ghosts}
use Rattle.journal_words.specs.Small.{AreAlike}
use Rattle.node_journal.specs.declared.pair.Pair.{Pair}
use Rattle.node_journal.specs.PairDisks.{list_of}
use Rattle.grid_model.specs.declared.acts.Act.{Act}
use Rattle.grid_model.specs.declared.events.Event.{Event}
use Rattle.grid_model.specs.declared.events.Event.TheVariants as event
use Rattle.grid_model.specs.declared.events.Out.{Out}
use Rattle.grid_model.specs.Disks.{disklog}
use Rattle.grid_model.specs.Documents.{DocumentData}
use Rattle.grid_model.specs.Histories.{after}
use Rattle.grid_model.specs.NextViews.{Comes, brought, next_view}
use Rattle.grid_model.specs.Nodes.{Writes, change, got, journal, written}
use Rattle.grid_model.specs.Rows.{outs_of}
use Rattle.grid_model.specs.Schedules.{next_number, numbered}
use Rattle.grid_model.specs.Views.{View, view}
use Rattle.node_core.specs.declared.nodes.Node.{Node}
use Rattle.node_core.specs.Steps.{row_of, ShowsView, IsWritten, Records, Moves, IsDone}
use Rattle.view_laws.specs.RowActs.{came}
use Rattle.view_laws.specs.RowRecords.{journal_behind}
use Rattle.view_laws.proofs.AlikeNext.{alike-next, as_list, written-list}
use Rattle.view_laws.proofs.AlikeRows.{alike-outs}
use Rattle.view_laws.proofs.BehindRows.{came-brought}
use Rattle.view_laws.proofs.RowTurns.{came-quiet, row-leaves, row-quiet, row-turn}
use Rattle.view_laws.proofs.ShownNext.{shown-next}
use Rattle.grid_hosts.specs.declared.hosts.Place.TheVariants.{Up}
use Rattle.host_laws.specs.Standing.{NodeStands}
use Rattle.host_laws.specs.Turns.{Turns, GivesRow}
use Rattle.host_laws.proofs.StepDisks.{DisksBehind, appended-behind, unwritten-behind, list-written, quiet-acts, quiet-join}

-- a view with this list in the place of its journal
abbrev pub with-journal : View → List Record → View
with-journal v r = record v { journal = r }

row-outs : (n gen : ℕ) (v : View) (e : Event) → (e ≡ event.Compact → ⊥) → row_of n gen v e ≡ outs_of n v e
row-outs n gen v event.Compact other = absurd (other refl)
row-outs n gen v e other = refl

-- the past behind which a node gives its outs
pub came-past : (past : List Act) (m : ℕ) (e : Event) → after past (came m e) ≡ brought m e past
came-past past m (event.Deliver x said) = refl
came-past past m e = refl

-- what an event writes is the same on each list
same-written : (fresh r j : List Record) (o : Option Record) → fresh ++ r ≡ written o r → fresh ++ j ≡ written o j
same-written fresh r j o is =
    ap (λ q. q ++ j) (append_cancel_right fresh (as_list o) r (is ∙ written-list o r)) ∙ sym (written-list o j)

module _ {D : Type 0} {g : Ghosts D} where
  moves-of : (e : Event) (x now : Node D g) → (e ≡ event.Compact → ⊥) → Moves e x now →
      (o : Option Record) × Records o x now
  moves-of event.Compact x now other moves = absurd (other refl)
  moves-of (event.Begin s floor) x now other moves = moves
  moves-of (event.Deliver y said) x now other moves = moves
  moves-of (event.Retry t) x now other moves = moves
  moves-of (event.Ask t) x now other moves = moves
  moves-of (event.AskPeer t y) x now other moves = moves

  -- the outs are those of the row
  outs-row : (d : DocumentData) (past : List Act) (n : NodeId) (e : Event) (x now : Node D g)
      (outs : List Out) → NodeStands d past n x → (e ≡ event.Compact → ⊥) → IsDone x e now outs →
      outs ≡ outs_of n (view d past n) e
  outs-row d past n e x now outs st other done =
      let v : View = with-journal (view d past n) x.store.journal in
      done.row v st.shows
      ∙ row-outs x.store.node x.pair.number v e other
      ∙ ap (λ k. outs_of k v e) st.number
      ∙ alike-outs n (view d past n) x.store.journal e st.alike

  -- the view that the node shows behind the event
  shows-next : (d : DocumentData) (past : List Act) (n : NodeId) (e : Event) (x now : Node D g)
      (outs : List Out) → NodeStands d past n x → (e ≡ event.Compact → ⊥) → IsDone x e now outs →
      ShowsView now (next_view n (with-journal (view d past n) x.store.journal) e (outs_of n (view d past n) e))
  shows-next d past n e x now outs st other done =
      let v : View = with-journal (view d past n) x.store.journal in
      subst (λ os. ShowsView now (next_view n v e os)) (outs-row d past n e x now outs st other done)
      (subst (λ k. ShowsView now (next_view k v e outs)) st.number (done.view v st.shows))

  -- the record that the node wrote, where there is one, is that of the row
  row-wrote : (d : DocumentData) (past : List Act) (n : NodeId) (e : Event) (x now : Node D g)
      (outs : List Out) (o : Option Record) → NodeStands d past n x → (e ≡ event.Compact → ⊥) →
      IsDone x e now outs → now.store.journal ≡ written o x.store.journal →
      journal_behind n (view d past n) e ≡ written o (journal d past n)
  row-wrote d past n e x now outs o st other done wrote =
      let v : View = view d past n in
      let r : List Record = x.store.journal in
      let os : List Out = outs_of n v e in
      let more = alike-next n v r e os st.alike in
      let shows : ShowsView now (next_view n (with-journal v r) e os) =
      shows-next d past n e x now outs st other done in
      let list : (next_view n (with-journal v r) e os).journal ≡ now.store.journal =
      ap (λ (w : View). w.journal) shows.is in
      let fresh : more.fresh ++ r ≡ written o r = sym (ap (λ (w : View). w.journal) more.view) ∙ list ∙ wrote in
      more.journal ∙ same-written more.fresh r v.journal o fresh

  list-behind : (o : Option Record) (p q : Pair D g) (r s : List Record) → IsWritten o p q →
      list_of p ≡ reverse r → s ≡ written o r → list_of q ≡ reverse s
  list-behind None p q r s w is same = w.list ∙ is ∙ ap reverse (sym same)
  list-behind (Some x) p q r s w is same = w.list ∙ list-written x r (list_of p) is ∙ ap reverse (sym same)

  disks-behind : (d : DocumentData) (past : List Act) (n : NodeId) (m k : ℕ) (e : Event) (x : Node D g)
      (q : Pair D g) (o : Option Record) → NodeStands d past n x → Comes d past n m e →
      (e ≡ event.Compact → ⊥) → journal_behind n (view d past n) e ≡ written o (journal d past n) →
      IsWritten o x.pair q → DisksBehind d past (came m e ++ numbered k n (outs_of n (view d past n) e)) n x.pair q
  disks-behind d past n m k e x q None st comes other wrote w =
      unwritten-behind d past (came m e ++ numbered k n (outs_of n (view d past n) e)) n x.pair q
      (quiet-join (came m e) (numbered k n (outs_of n (view d past n) e)) (quiet-acts (came m e) (came-quiet m e))
      (quiet-acts (numbered k n (outs_of n (view d past n) e)) (row-quiet k n (view d past n) e true other wrote)))
      st.tells st.disks w
  disks-behind d past n m k e x q (Some y) st comes other wrote w =
      let acts : List Act = numbered k n (outs_of n (view d past n) e) in
      let t = row-turn d past n m k e y comes wrote in
      appended-behind d past (came m e ++ acts) (came m e) t.behind t.turn n y x.pair q
      (ap (λ more. came m e ++ more) t.are) (quiet-acts (came m e) (came-quiet m e)) (quiet-acts t.behind t.quiet) t.at
      (subst (λ here. change d (got here) t.turn n ≡ Writes (Some y)) (sym (came-past past m e)) t.writes) st.tells
      st.list st.disks w

  -- the node behind the acts of its row
  node-behind : (d : DocumentData) (past : List Act) (n : NodeId) (m k : ℕ) (e : Event) (x now : Node D g)
      (outs : List Out) (o : Option Record) → NodeStands d past n x → Comes d past n m e →
      (e ≡ event.Compact → ⊥) → IsDone x e now outs → Records o x now →
      DisksBehind d past (came m e ++ numbered k n (outs_of n (view d past n) e)) n x.pair now.pair →
      NodeStands d (after past (came m e ++ numbered k n (outs_of n (view d past n) e))) n now
  node-behind d past n m k e x now outs o st comes other done moves disks =
      let v : View = view d past n in
      let r : List Record = x.store.journal in
      let acts : List Act = numbered k n (outs_of n v e) in
      let there : List Act = after past (came m e ++ acts) in
      let wrote : journal_behind n v e ≡ written o (journal d past n) =
      row-wrote d past n e x now outs o st other done moves.journal in
      let same : after (brought m e past) acts ≡ there = sym (came-brought past acts m e) in
      let shown = shown-next d past n m k e r o comes st.alike wrote in
      let leaves = row-leaves d past n m k e o comes other wrote in
      record {
        number = done.node ∙ st.number;
        cluster = done.cluster ∙ st.cluster;
        alike = subst (λ h. AreAlike now.store.journal (journal d h n)) same
            (subst (λ j. AreAlike j (journal d (after (brought m e past) acts) n)) (sym moves.journal) shown.alike);
        shows = subst (λ h. ShowsView now (with-journal (view d h n) now.store.journal)) same
            (subst (λ j. ShowsView now (with-journal (view d (after (brought m e past) acts) n) j)) (sym moves.journal)
            (subst (ShowsView now) shown.view (shows-next d past n e x now outs st other done)));
        list = list-behind o x.pair now.pair (disklog d past n) (disklog d there n) moves.disks st.list
            (ap (λ h. disklog d h n) (sym same) ∙ leaves.disklog);
        tells = disks.tells;
        disks = disks.disks;
      }

  pub gives-row : (d : DocumentData) (past : List Act) (n : NodeId) (m : ℕ) (e : Event) (x now : Node D g)
      (outs : List Out) → NodeStands d past n x → Comes d past n m e → (e ≡ event.Compact → ⊥) →
      IsDone x e now outs → GivesRow d past n m e (Up x) (Up now) outs
  gives-row d past n m e x now outs st comes other done =
      let row : outs ≡ outs_of n (view d past n) e = outs-row d past n e x now outs st other done in
      let k : ℕ = next_number past in
      let moves : (o : Option Record) × Records o x now = moves-of e x now other done.moves in
      let disks : DisksBehind d past (came m e ++ numbered k n (outs_of n (view d past n) e)) n x.pair now.pair =
      disks-behind d past n m k e x now.pair moves.0 st comes other
      (row-wrote d past n e x now outs moves.0 st other done moves.1.journal) moves.1.disks in
      record {
        row = row;
        turns = subst (λ os. Turns d past (came m e ++ numbered k n os) n (Up x) (Up now)) (sym row) (record {
          more = disks.more;
          moves = disks.moves;
          rise = disks.rise;
          grown = grow disks.number;
          stands = node-behind d past n m k e x now outs moves.0 st comes other done moves.1 disks;
        });
      }
    where
      grow : now.pair.number ≡ x.pair.number → now.pair.number ≤ x.pair.number + 1
      grow is = omega (arith, is)
