-- A node that stands and is down behind a run can be opened, and stands behind how its opening ends.
use Rattle.std.proofs.Common.{◌≡◌, ◌≤◌, ℕ, ◌+◌, nat_lt, Bool, true, false, IsTrue, is_some, List, [], ◌∷◌, length, reverse, Option, Some, None, refl, sym, ap, subst, ◌∙◌, arith}
use Rattle.std.proofs.lemmas.List.{reverse-reverse}
use Rattle.std.specs.List.{list_all}
use Rattle.score_base.specs.declared.ids.NodeId.{NodeId}
use Rattle.score_base.specs.declared.records.Record.{Record}
use Rattle.score_disk.specs.declared.disk.Disk.{Ghosts}
use Rattle.journal_words.specs.Journals.{all_fit}
use Rattle.journal_words.specs.Small.{AreAlike, small}
use Rattle.node_journal.specs.PairDisks.{list_of}
use Rattle.grid_model.specs.declared.acts.Act.{Act}
use Rattle.grid_model.specs.declared.acts.Act.TheVariants as act
use Rattle.grid_model.specs.declared.acts.Flag.{Flag}
use Rattle.grid_model.specs.declared.acts.Head.{Head}
use Rattle.grid_model.specs.declared.acts.Head.TheVariants as head
use Rattle.grid_model.specs.declared.items.Item.{Item}
use Rattle.grid_model.specs.Disks.{disklog, is_compacting}
use Rattle.grid_model.specs.Documents.{DocumentData, number_order, script_numbers}
use Rattle.grid_model.specs.Histories.{after}
use Rattle.grid_model.specs.Nodes.{is_kept, journal, node}
use Rattle.grid_model.specs.Runs.{IsRun}
use Rattle.grid_model.specs.Schedules.{flag_at, losses, opened_row}
use Rattle.grid_model.specs.Views.{View}
use Rattle.grid_model.proofs.DiskLists.{disk-alike, disk-fit}
use Rattle.grid_laws.proofs.NodesFitActs.{records-fit}
use Rattle.grid_laws.proofs.RowOuts.{pass-losses}
use Rattle.grid_laws.proofs.RunsDue.{due-run}
use Rattle.node_core.specs.declared.nodes.Node.{Node}
use Rattle.node_core.specs.Openings.{TellBoth, IsUp}
use Rattle.node_core.specs.Steps.{ShowsView}
use Rattle.disk_laws.specs.Calls.{CameUp}
use Rattle.disk_laws.specs.DiskActs.{is_quiet}
use Rattle.disk_laws.specs.Seats.{StandsUp, HoldsLog, standing, in_doubt, compacting, UpBehind, DownBehind, finds_by, flag_by}
use Rattle.disk_laws.specs.Shown.{HasLog, shown, seats}
use Rattle.disk_laws.proofs.Files.{log-one}
use Rattle.disk_laws.proofs.NodeActs.{StillLeaves, still-leaves, up-leaves}
use Rattle.disk_laws.proofs.Openings.{Opens, fails-down, opens-by, opens-up}
use Rattle.disk_laws.proofs.Others.{up-quiet}
use Rattle.disk_laws.proofs.Unmoved.{Unmoved, unmoved-all}
use Rattle.view_laws.proofs.OpenedViews.{alike-opened, opened-run}
use Rattle.grid_hosts.specs.declared.falls.Fall.{Fall}
use Rattle.grid_hosts.specs.declared.hosts.Place.{Place}
use Rattle.grid_hosts.specs.declared.hosts.Place.TheVariants.{Up, Down}
use Rattle.grid_hosts.specs.declared.openings.Restarted.{Restarted}
use Rattle.grid_hosts.specs.declared.openings.Restarted.TheVariants as restarted
use Rattle.grid_hosts.specs.Hosts.{AreOpenable, ComesUp, Reopens, StaysDown, found}
use Rattle.grid_hosts.specs.Hosts.{flag_at as told_at}
use Rattle.host_laws.specs.Standing.{FallStands, NodeStands, SaysDoubt}
use Rattle.host_laws.specs.Turns.{RestartedBehind, Turns, UpRow, turned}
use Rattle.host_laws.proofs.DiskWords.{crashed-seat, crashed-tells, failed-seats, failed-tells, up-seats, up-tells}
use Rattle.host_laws.proofs.Falls.{one-moves}
use Rattle.host_laws.proofs.OtherNodes.{says-same}
use Rattle.host_laws.proofs.StepDisks.{to-seats}

-- ---- the log of a node that is down

-- what an opening reads: some records, of this generation or the next
record Reads (number : ℕ) (a b : List ℕ) : Type 0 where
  pub records : List Record
  pub now : ℕ
  pub log : HasLog records now a b
  pub grown : now ≤ number + 1

reads : (d : DocumentData) (past : List Act) (n number : ℕ) (a b : List ℕ) → HoldsLog d past n number a b →
    Reads number a b
reads d past n number a b (standing is) = record {
  records = reverse (disklog d past n);
  now = number;
  log = is;
  grown = omega arith;
}
reads d past n number a b (in_doubt last not_small doubt lets is) = record {
  records = reverse (last ∷ disklog d past n);
  now = number;
  log = is;
  grown = omega arith;
}
reads d past n number a b (compacting is_small lets is) = record {
  records = reverse (small (disklog d past n));
  now = number + 1;
  log = is;
  grown = omega arith;
}

read-number : (d : DocumentData) (past : List Act) (n number number' : ℕ) (records : List Record) (a b : List ℕ) →
    HoldsLog d past n number a b → HasLog records number' a b → number' ≤ number + 1
read-number d past n number number' records a b holds log =
    let r : Reads number a b = reads d past n number a b holds in
    let same : number' ≡ r.now = (log-one records r.records number' r.now a b log r.log).1 in
    omega (arith, same, r.grown)

-- ---- the records of an opening

-- each record of the journal that an opening leaves fits those before it, whatever it finds
opened-fit : (d : DocumentData) (items : List Item) (h : List Act) (n : NodeId) (f : Flag) → IsRun d items h →
    all_fit d.cluster n (journal d (act.Up n f ∷ after [] h) n) ≡ true
opened-fit d items h n f run =
    subst (λ r. all_fit d.cluster n r ≡ true) (sym (up-leaves d (after [] h) n f).journal_is)
    (records-fit d (after [] h) (due-run d items h run) (is_kept f) n)

-- ---- what an opening tells

tells-found : (b : Bool) (o : Option Record) → found b ≡ flag_at true o b
tells-found true o = refl
tells-found false o = refl

tells-record : (b : Bool) (o : Option Record) → is_some o ≡ true → found b ≡ flag_at false o b
tells-record b None is = grind arith
tells-record true (Some x) is = refl
tells-record false (Some x) is = refl

-- what was known of the stop tells the same as the acts
told-record : (d : DocumentData) (past : List Act) (n : NodeId) (fall : Fall) (count number : ℕ) →
    is_compacting past n ≡ false → is_some (node d past n).doubt ≡ true → fall.count ≡ length (disklog d past n) →
    found (nat_lt fall.count count) ≡ flag_by d past n fall.generation number count
told-record d past n fall count number small doubt same =
    rw (small, same) (tells-record (nat_lt (length (disklog d past n)) count) (node d past n).doubt doubt)

told-by : (d : DocumentData) (past : List Act) (n : NodeId) (h : Option Head) (fall : Fall) (count number : ℕ) →
    SaysDoubt d past n h → fall.count ≡ length (disklog d past n) →
    told_at h fall count number ≡ flag_by d past n fall.generation number count
told-by d past n None fall count number says same = rw (says.0, says.1) refl
told-by d past n (Some head.Compact) fall count number says same =
    rw says (tells-found (nat_lt fall.generation number) (node d past n).doubt)
told-by d past n (Some (head.Prepared t i)) fall count number says same =
    told-record d past n fall count number says.0 says.1 same
told-by d past n (Some (head.Ended t o)) fall count number says same =
    told-record d past n fall count number says.0 says.1 same
told-by d past n (Some (head.Ceiling c)) fall count number says same =
    told-record d past n fall count number says.0 says.1 same
told-by d past n (Some (head.Decided t f)) fall count number says same =
    told-record d past n fall count number says.0 says.1 same
told-by d past n (Some (head.Closed t)) fall count number says same =
    told-record d past n fall count number says.0 says.1 same

-- ---- the losses of an opening

losses-quiet : (d : DocumentData) (up : List Act) (n : NodeId) → IsTrue (list_all is_quiet (losses d up n))
losses-quiet d up n = pass-losses is_quiet d up n (number_order (script_numbers d.scripts)) (λ t. refl)

module _ {D : Type 0} {g : Ghosts D} where
  -- ---- a node that is down can be opened

  pub are-openable : (d : DocumentData) (items : List Item) (h : List Act) (n : NodeId) (a b : D) (fall : Fall) →
      IsRun d items h → FallStands g d (after [] h) n a b fall → AreOpenable g n d.cluster a b
  are-openable d items h n a b fall run st =
      let past : List Act = after [] h in
      let holds : HoldsLog d past n fall.generation (g.file a).seen (g.file b).seen = st.disks.holds in
      let r : Reads fall.generation (g.file a).seen (g.file b).seen =
      reads d past n fall.generation (g.file a).seen (g.file b).seen holds in
      let f : Flag = flag_by d past n fall.generation r.now (length r.records) in
      let o : Opens d past n r.records r.now f =
      opens-by d past n fall.generation r.now r.records (g.file a).seen (g.file b).seen st.disks.plain holds r.log in
      record {
        tell = (st.tells_first, st.tells_second);
        first_settled = st.disks.first_settled;
        second_settled = st.disks.second_settled;
        records = r.records;
        log = r.log.log;
        fit = subst (λ q. all_fit d.cluster n q ≡ true)
            (sym (ap reverse o.list ∙ reverse-reverse (disklog d (act.Up n f ∷ past) n)))
            (disk-fit d (act.Up n f ∷ past) n (opened-fit d items h n f run));
      }

  -- ---- an opening that comes up

  up-stands : (d : DocumentData) (items : List Item) (h : List Act) (n : NodeId) (a b : D) (fall : Fall)
      (x : Node D g) (f : Flag) → IsRun d items h → FallStands g d (after [] h) n a b fall →
      IsUp g n d.cluster a b x → Opens d (after [] h) n (list_of x.pair) x.pair.number f →
      StandsUp d (act.Up n f ∷ after [] h) n x.pair.number (seats x.pair) →
      NodeStands d (after (after [] h) (opened_row d (after [] h) n f)) n x
  up-stands d items h n a b fall x f run st up o disks =
      let past : List Act = act.Up n f ∷ after [] h in
      let lost : List Act = losses d past n in
      let silent : IsTrue (list_all is_quiet lost) = losses-quiet d past n in
      let u : Unmoved d past (after past lost) n = unmoved-all d past lost n silent in
      let read : x.store.journal ≡ disklog d past n =
      up.store.journal ∙ ap reverse o.list ∙ reverse-reverse (disklog d past n) in
      let alike : AreAlike x.store.journal (journal d past n) =
      subst (λ r. AreAlike r (journal d past n)) (sym read)
      (disk-alike d past n (opened-fit d items h n f run)) in
      record {
        number = up.store.node;
        cluster = up.store.cluster;
        alike = subst (AreAlike x.store.journal) (sym u.journal_is) alike;
        shows = subst (λ (v : View). ShowsView x (record v { journal = x.store.journal }))
            (sym (opened-run d items h n f run st.disks.down))
            (subst (ShowsView x) (alike-opened d.cluster x.store.journal (journal d past n) alike) up.view);
        list = o.list ∙ ap reverse (sym u.disklog_is);
        tells = up-tells n d.cluster a b x up (st.tells_first, st.tells_second);
        disks = up-quiet d past lost n x.pair.number (seats x.pair) silent disks;
      }

  comes-up : (d : DocumentData) (items : List Item) (h : List Act) (n : NodeId) (a b : D) (fall : Fall)
      (x : Node D g) (f : Flag) → IsRun d items h → FallStands g d (after [] h) n a b fall →
      ComesUp n d.cluster a b fall x f → UpRow d (after [] h) n (Down a b fall) (Up x) f
  comes-up d items h n a b fall x f run st c =
      let past : List Act = after [] h in
      let count : ℕ = length (list_of x.pair) in
      let number : ℕ = x.pair.number in
      let came : CameUp (list_of x.pair) number (shown g a) (shown g b) (seats x.pair) =
      up-seats n d.cluster a b x c.up (st.tells_first, st.tells_second) in
      let k : Flag = flag_by d past n fall.generation number count in
      let told : f ≡ k = c.flag ∙ told-by d past n fall.head fall count number st.doubt st.count in
      let o : Opens d past n (list_of x.pair) number k =
      opens-by d past n fall.generation number (list_of x.pair) (g.file a).seen (g.file b).seen st.disks.plain
      st.disks.holds came.log in
      let up : UpBehind d past n (act.Up n k) number (shown g a) (shown g b) (seats x.pair) =
      opens-up d past n fall.generation number (list_of x.pair) (shown g a) (shown g b) (seats x.pair) st.disks
      came in
      subst (UpRow d past n (Down a b fall) (Up x)) (sym told) (record {
        finds = finds_by (is_compacting past n) fall.generation number (length (disklog d past n)) count;
        flag = refl;
        turns = record {
          more = up.turn.more;
          moves = turned (record {
            front = [];
            turn = act.Up n k;
            behind = losses d (act.Up n k ∷ past) n;
            are = refl;
            quiet_front = refl;
            quiet_behind = losses-quiet d (act.Up n k ∷ past) n;
            own = up.turn.own;
            promised = up.turn.promised;
          });
          rise = to-seats x.pair (g.own a) (g.own b) up.turn.more up.turn.rise;
          grown = read-number d past n fall.generation number (list_of x.pair) (g.file a).seen (g.file b).seen
              st.disks.holds came.log;
          stands = up-stands d items h n a b fall x k run st c.up o up.stands;
        };
      })

  -- ---- an opening that fails

  stays-down : (d : DocumentData) (past : List Act) (n : NodeId) (a b one two : D) (fall : Fall) →
      FallStands g d past n a b fall → StaysDown g a b one two →
      Turns {g = g} d past (act.StillDown n ∷ []) n (Down a b fall) (Down one two fall)
  stays-down d past n a b one two fall st s =
      let tell : TellBoth g a b = (st.tells_first, st.tells_second) in
      let left : TellBoth g s.first_left s.second_left = failed-tells a b s.first_left s.second_left s.failed tell in
      let l : StillLeaves d past n = still-leaves d past n in
      let down : DownBehind d past n (act.StillDown n) fall.generation (shown g a) (shown g b) (shown g one)
      (shown g two) =
      fails-down d past n fall.generation (shown g a) (shown g b) (shown g s.first_left) (shown g s.second_left)
      (shown g one) (shown g two) st.disks (failed-seats a b s.first_left s.second_left s.failed tell)
      (crashed-seat s.first_left one s.first_is left.0) (crashed-seat s.second_left two s.second_is left.1) in
      record {
        more = down.turn.more;
        moves = one-moves d past n (act.StillDown n) (shown g a) (shown g b) (shown g one) (shown g two) down.turn;
        rise = down.turn.rise;
        grown = omega arith;
        stands = record {
          tells_first = crashed-tells s.first_left one s.first_is left.0;
          tells_second = crashed-tells s.second_left two s.second_is left.1;
          disks = down.stands;
          count = st.count ∙ ap length (sym l.disklog_is);
          doubt = says-same d past (act.StillDown n ∷ past) n fall.head l.compacting_is l.doubt_is st.doubt;
        };
      }

  -- ---- how an opening ends

  pub reopens-behind : (d : DocumentData) (items : List Item) (h : List Act) (n : NodeId) (a b : D) (fall : Fall)
      (q : Place D g) (r : Restarted) → IsRun d items h → FallStands g d (after [] h) n a b fall →
      Reopens n d.cluster a b fall q r → RestartedBehind d (after [] h) n (Down a b fall) q r
  reopens-behind d items h n a b fall (Up x) (restarted.Up f) run st is = comes-up d items h n a b fall x f run st is
  reopens-behind d items h n a b fall (Down one two fall') (restarted.Up f) run st is = absurd is
  reopens-behind d items h n a b fall (Up x) restarted.StillDown run st is = absurd is
  reopens-behind d items h n a b fall (Down one two fall') restarted.StillDown run st (stays, same) =
      subst (λ z. Turns {g = g} d (after [] h) (act.StillDown n ∷ []) n (Down a b fall) (Down one two z)) (sym same)
      (stays-down d (after [] h) n a b one two fall st stays)
  reopens-behind d items h n a b fall q restarted.Memory run st is = tt
