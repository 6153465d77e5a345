-- Behind the start each node stands: it was opened from two new disks, and came up or did not.
use Rattle.std.proofs.Common.{◌≡◌, ◌<◌, ◌≤◌, inl, inr, ◌⊎◌, ℕ, ◌+◌, ◌-◌, ◌==◌, zero, suc, nat_lt, Bool, true, false, List, [], ◌∷◌, length, reverse, map, Some, None, refl, sym, ap, subst, ◌∙◌, arith}
use Rattle.std.proofs.lemmas.Bool.{cases_lt}
use Rattle.std.proofs.lemmas.Bool.Decides.{nat_tests}
use Rattle.std.specs.Prelude.{slice_get}
use Rattle.std.specs.List.{range_with_len}
use Rattle.score_base.specs.declared.ids.NodeId.{NodeId}
use Rattle.score_base.specs.declared.records.Record.{Record}
use Rattle.placement.specs.Clusters.{ClusterData}
use Rattle.score_disk.specs.declared.disk.Disk.{Ghosts}
use Rattle.journal_words.specs.Small.{AreAlike}
use Rattle.node_journal.specs.Log.{generation}
use Rattle.node_journal.specs.PairDisks.{TellsBoth, first_of, last_of, list_of}
use Rattle.node_journal.specs.Pairs.{age}
use Rattle.node_journal.specs.Spending.{Opened}
use Rattle.grid_model.specs.declared.acts.Act.{Act}
use Rattle.grid_model.specs.declared.acts.Act.TheVariants as act
use Rattle.grid_model.specs.declared.acts.Flag.{Flag}
use Rattle.grid_model.specs.declared.acts.Flag.TheVariants as flag
use Rattle.grid_model.specs.Disks.{disklog}
use Rattle.grid_model.specs.Documents.{DocumentData}
use Rattle.grid_model.specs.Histories.{after}
use Rattle.grid_model.specs.Nodes.{journal}
use Rattle.grid_model.specs.Schedules.{start_act, start_row}
use Rattle.grid_model.specs.Views.{View}
use Rattle.node_core.specs.declared.nodes.Node.{Node}
use Rattle.node_core.specs.Openings.{TellBoth, IsUp}
use Rattle.node_core.specs.Steps.{ShowsView}
use Rattle.disk_laws.specs.Calls.{IsNew}
use Rattle.disk_laws.specs.Seats.{DownBehind, StandsDown, StandsNew, StandsUp, UpBehind}
use Rattle.disk_laws.specs.Shown.{HasLog, Shown, seats, shown}
use Rattle.disk_laws.specs.SoFar.{HasOpened, IsJointRise}
use Rattle.disk_laws.proofs.CountRises.{joint-none}
use Rattle.disk_laws.proofs.Files.{empty-log, log-one, log-same}
use Rattle.disk_laws.proofs.NodeActs.{StillLeaves, still-leaves}
use Rattle.disk_laws.proofs.Openings.{first-fails, first-up, new-stands}
use Rattle.disk_laws.proofs.Others.{down-unmoved, new-unmoved, up-unmoved}
use Rattle.disk_laws.proofs.PairSeats.{list-at}
use Rattle.disk_laws.proofs.Steps.{differs, equal, so_far-start, start-other, start-unmoved}
use Rattle.disk_laws.proofs.Unmoved.{Unmoved}
use Rattle.view_laws.proofs.Asleep.{fresh-start}
use Rattle.view_laws.proofs.OpenedViews.{alike-opened, opened-start}
use Rattle.grid_hosts.specs.declared.hosts.Host.{Host}
use Rattle.grid_hosts.specs.declared.hosts.Place.{Place}
use Rattle.grid_hosts.specs.declared.hosts.Place.TheVariants.{Up, Down}
use Rattle.grid_hosts.specs.declared.openings.Restarted.{Restarted}
use Rattle.grid_hosts.specs.declared.openings.Restarted.TheVariants as restarted
use Rattle.grid_hosts.specs.Hosts.{AreOpenable, Reopens, StaysDown}
use Rattle.host_laws.specs.Follows.{HostFollows, HostsFollow}
use Rattle.host_laws.specs.Standing.{FallStands, NodeStands, SaysDoubt, Stands, first_disk, second_disk, generation_in}
use Rattle.host_laws.specs.Starts.{AreNew, Ends, HasStarted, never_up}
use Rattle.host_laws.proofs.DiskWords.{crashed-seat, crashed-tells, failed-seats, failed-tells, up-seats, up-tells}

-- ---- new disks

less-none : (k : ℕ) → nat_lt k k ≡ false
less-none k = grind (arith, nat_tests)

-- two new disks have no record and no generation
new-log : (first second : Shown) → IsNew first → IsNew second → HasLog [] 0 first.file.seen second.file.seen
new-log first second a b =
    log-same [] 0 [] [] first.file.seen second.file.seen a.empty b.empty
    (empty-log [] [] (less-none (age (generation []))) (omega arith))

same-alike : (r j : List Record) → r ≡ [] → j ≡ [] → AreAlike r j
same-alike r j e f =
    subst (λ x. AreAlike x j) (sym e)
    (subst (AreAlike []) (sym f) (record { ballots = refl; clock = refl; decisions = λ t. refl }))

-- ---- the acts of the start

up-act : (opens : NodeId → Bool) (n : NodeId) → opens n ≡ true → act.Up n flag.Untouched ≡ start_act opens n
up-act opens n is = rw is refl

still-act : (opens : NodeId → Bool) (n : NodeId) → opens n ≡ false → act.StillDown n ≡ start_act opens n
still-act opens n is = rw is refl

-- what the opening of n from new disks leaves, and those of other nodes keep, stands behind all of them
among : (P : List Act → Type 0) (d : DocumentData) (opens : NodeId → Bool) (n : NodeId) (first second : Shown) →
    ((p : List Act) → StandsNew d p n first second → P (start_act opens n ∷ p)) →
    ((p q : List Act) → Unmoved d p q n → P p → P q) → (p : List Act) (a len : ℕ) → a ≤ n → n < a + len →
    StandsNew d p n first second → P (after p (map (start_act opens) (range_with_len a len)))
among P d opens n first second own keep p a zero low high st = let never : ⊥ = omega (arith, low, high) in absurd never
among P d opens n first second own keep p a (suc len) low high st =
    go (a == n) refl (λ other. among P d opens n first second own keep (start_act opens a ∷ p) (a + 1) len
    (omega (arith, other, low)) (omega (arith, high))
    (new-unmoved d p (start_act opens a ∷ p) n first second (start-unmoved d p opens a n other) st))
  where
    go : (b : Bool) → (a == n) ≡ b →
        ((a ≡ n → ⊥) → P (after (start_act opens a ∷ p) (map (start_act opens) (range_with_len (a + 1) len)))) →
        P (after (start_act opens a ∷ p) (map (start_act opens) (range_with_len (a + 1) len)))
    go true e rest =
        let is : a ≡ n = equal a n e in
        keep (start_act opens a ∷ p) (after (start_act opens a ∷ p) (map (start_act opens) (range_with_len (a + 1) len)))
        (start-other d (start_act opens a ∷ p) opens (a + 1) len n (inl (omega (arith, is))))
        (subst (λ k. P (start_act opens k ∷ p)) (sym is) (own p st))
    go false e rest = rest (differs a n e)

behind-start : (P : List Act → Type 0) (d : DocumentData) (opens : NodeId → Bool) (n : NodeId) (first second : Shown) →
    1 ≤ n → n ≤ d.cluster.nodes → IsNew first → IsNew second →
    ((p : List Act) → StandsNew d p n first second → P (start_act opens n ∷ p)) →
    ((p q : List Act) → Unmoved d p q n → P p → P q) → P (after [] (start_row d.cluster.nodes opens))
behind-start P d opens n first second low high a b own keep =
    among P d opens n first second own keep [] 1 d.cluster.nodes low (omega (arith, high))
    (new-stands d n first second a b)

-- the failed first opening of n leaves its disks so
record IsStill (d : DocumentData) (p : List Act) (n : NodeId) (one two : Shown) : Type 0 where
  pub disks : StandsDown d p n 0 one two
  pub says : SaysDoubt d p n None

-- the past behind the start
abbrev past-of : DocumentData → (NodeId → Bool) → List Act
past-of d opens = after [] (start_row d.cluster.nodes opens)

module _ {D : Type 0} (g : Ghosts D) where
  -- two new disks can be opened
  pub new-openable : (n : NodeId) (c : ClusterData) (a b : D) → AreNew g a b → AreOpenable g n c a b
  new-openable n c a b new =
      let log : HasLog [] 0 (g.file a).seen (g.file b).seen = new-log (shown g a) (shown g b) new.first_new new.second_new in
      record {
        tell = (new.tells_first, new.tells_second);
        first_settled = new.first_new.settled;
        second_settled = new.second_new.settled;
        records = [];
        log = log.log;
        fit = refl;
      }

  both-tell : (a b : D) → AreNew g a b → TellBoth g a b
  both-tell a b new = (new.tells_first, new.tells_second)

module _ {D : Type 0} {g : Ghosts D} where
  -- a first opening finds nothing in doubt
  pub first-untouched : (n : NodeId) (c : ClusterData) (a b : D) (p : Place D g) (f : Flag) →
      Reopens n c a b never_up p (restarted.Up f) → f ≡ flag.Untouched
  first-untouched n c a b (Up x) f is = is.flag
  first-untouched n c a b (Down one two fall) f is = absurd is

  -- ---- a node that came up

  opened-empty : (n : NodeId) (c : ClusterData) (a b : D) (x : Node D g) → AreNew g a b → IsUp g n c a b x →
      (list_of x.pair ≡ []) × (x.pair.number ≡ 0)
  opened-empty n c a b x new u =
      let up = up-seats n c a b x u (both-tell g a b new) in
      log-one (list_of x.pair) [] x.pair.number 0 (g.file a).seen (g.file b).seen up.log
      (new-log (shown g a) (shown g b) new.first_new new.second_new)

  up-disks : (d : DocumentData) (opens : NodeId → Bool) (n : NodeId) (a b : D) (x : Node D g) → 1 ≤ n →
      n ≤ d.cluster.nodes → opens n ≡ true → AreNew g a b → IsUp g n d.cluster a b x →
      StandsUp d (past-of d opens) n x.pair.number (seats x.pair)
  up-disks d opens n a b x low high is new u =
      behind-start (λ p. StandsUp d p n x.pair.number (seats x.pair)) d opens n (shown g a) (shown g b) low high
      new.first_new new.second_new own (λ p q same. up-unmoved d p q n x.pair.number (seats x.pair) same)
    where
      own : (p : List Act) → StandsNew d p n (shown g a) (shown g b) →
          StandsUp d (start_act opens n ∷ p) n x.pair.number (seats x.pair)
      own p st =
          let up : UpBehind d p n (act.Up n flag.Untouched) x.pair.number (shown g a) (shown g b) (seats x.pair) =
          first-up d p n x.pair.number (list_of x.pair) (shown g a) (shown g b) (seats x.pair) st
          (up-seats n d.cluster a b x u (both-tell g a b new)) in
          subst (λ t. StandsUp d (t ∷ p) n x.pair.number (seats x.pair)) (up-act opens n is) up.stands

  up-stands : (d : DocumentData) (opens : NodeId → Bool) (n : NodeId) (a b : D) (x : Node D g) → 1 ≤ n →
      n ≤ d.cluster.nodes → opens n ≡ true → AreNew g a b → IsUp g n d.cluster a b x →
      NodeStands d (past-of d opens) n x
  up-stands d opens n a b x low high is new u =
      let past : List Act = past-of d opens in
      let disks : StandsUp d past n x.pair.number (seats x.pair) = up-disks d opens n a b x low high is new u in
      let tells : TellsBoth x.pair = up-tells n d.cluster a b x u (both-tell g a b new) in
      let empty : x.store.journal ≡ [] = u.store.journal ∙ ap reverse (opened-empty n d.cluster a b x new u).0 in
      record {
        number = u.store.node;
        cluster = u.store.cluster;
        alike = same-alike x.store.journal (journal d past n) empty (fresh-start d opens n).journal;
        shows = subst (λ (v : View). ShowsView x (record v { journal = x.store.journal })) (sym (opened-start d opens n))
            (subst (ShowsView x) (alike-opened d.cluster x.store.journal [] (same-alike x.store.journal [] empty refl))
            u.view);
        list = list-at g x.pair (reverse (disklog d past n)) x.pair.number tells disks.rest;
        tells = tells;
        disks = disks;
      }

  opened-own : (a b : D) → Opened g a b → g.own b ≡ g.own a
  opened-own a b (inl same) = same.own
  opened-own a b (inr spent) = spent.own

  up-rise : (n : NodeId) (c : ClusterData) (a b : D) (x : Node D g) → AreNew g a b → IsUp g n c a b x →
      IsJointRise (g.own a) (g.own b) (g.own (first_of x.pair)) (g.own (last_of x.pair)) 0
  up-rise n c a b x new u =
      let opened = u.first_only (both-tell g a b new) in
      joint-none (g.own a) (g.own b) (g.own (first_of x.pair)) (g.own (last_of x.pair))
      (opened-own a (first_of x.pair) opened.0) opened.1.own

  -- ---- a node that did not

  fails : (d : DocumentData) (p : List Act) (n : NodeId) (a b one two : D) → AreNew g a b → StaysDown g a b one two →
      StandsNew d p n (shown g a) (shown g b) →
      (x : DownBehind d p n (act.StillDown n) 0 (shown g a) (shown g b) (shown g one) (shown g two))
      × (1 ≤ x.turn.more)
  fails d p n a b one two new s st =
      let tell : TellBoth g a b = both-tell g a b new in
      let left : TellBoth g s.first_left s.second_left = failed-tells a b s.first_left s.second_left s.failed tell in
      first-fails d p n (shown g a) (shown g b) (shown g s.first_left) (shown g s.second_left) (shown g one)
      (shown g two) st (failed-seats a b s.first_left s.second_left s.failed tell)
      (crashed-seat s.first_left one s.first_is left.0) (crashed-seat s.second_left two s.second_is left.1)

  still-disks : (d : DocumentData) (opens : NodeId → Bool) (n : NodeId) (a b one two : D) → 1 ≤ n →
      n ≤ d.cluster.nodes → opens n ≡ false → AreNew g a b → StaysDown g a b one two →
      IsStill d (past-of d opens) n (shown g one) (shown g two)
  still-disks d opens n a b one two low high is new s =
      behind-start (λ p. IsStill d p n (shown g one) (shown g two)) d opens n (shown g a) (shown g b) low high
      new.first_new new.second_new own keep
    where
      own : (p : List Act) → StandsNew d p n (shown g a) (shown g b) →
          IsStill d (start_act opens n ∷ p) n (shown g one) (shown g two)
      own p st =
          let l : StillLeaves d p n = still-leaves d p n in
          subst (λ t. IsStill d (t ∷ p) n (shown g one) (shown g two)) (still-act opens n is) (record {
            disks = (fails d p n a b one two new s st).0.stands;
            says = (l.compacting_is ∙ st.uncompacted, l.doubt_is ∙ st.sure);
          })

      keep : (p q : List Act) → Unmoved d p q n → IsStill d p n (shown g one) (shown g two) →
          IsStill d q n (shown g one) (shown g two)
      keep p q u st = record {
        disks = down-unmoved d p q n 0 (shown g one) (shown g two) u st.disks;
        says = (u.compacting_is ∙ st.says.0, u.doubt_is ∙ st.says.1);
      }

  still-stands : (d : DocumentData) (opens : NodeId → Bool) (n : NodeId) (a b one two : D) → 1 ≤ n →
      n ≤ d.cluster.nodes → opens n ≡ false → AreNew g a b → StaysDown g a b one two →
      FallStands g d (past-of d opens) n one two never_up
  still-stands d opens n a b one two low high is new s =
      let past : List Act = past-of d opens in
      let st : IsStill d past n (shown g one) (shown g two) = still-disks d opens n a b one two low high is new s in
      let left : TellBoth g s.first_left s.second_left =
      failed-tells a b s.first_left s.second_left s.failed (both-tell g a b new) in
      record {
        tells_first = crashed-tells s.first_left one s.first_is left.0;
        tells_second = crashed-tells s.second_left two s.second_is left.1;
        disks = st.disks;
        count = ap length (sym (st.disks.plain refl ∙ (fresh-start d opens n).journal));
        doubt = st.says;
      }

  -- ---- a node behind the start

  -- the node stands behind the start, and the counts of its disks rose where it did not come up
  record IsBehind (d : DocumentData) (opens : NodeId → Bool) (n : NodeId) (a b : D) (p : Place D g) : Type 0 where
    pub more : ℕ
    pub up : opens n ≡ true → more ≡ 0
    pub failed : opens n ≡ false → 1 ≤ more
    pub stands : Stands d (past-of d opens) n p
    pub rise : IsJointRise (g.own a) (g.own b) (g.own (first_disk p)) (g.own (second_disk p)) more
    pub generation : generation_in p ≡ 0

  came-up : (d : DocumentData) (opens : NodeId → Bool) (n : NodeId) (a b : D) (x : Node D g) → 1 ≤ n →
      n ≤ d.cluster.nodes → opens n ≡ true → AreNew g a b → IsUp g n d.cluster a b x → IsBehind d opens n a b (Up x)
  came-up d opens n a b x low high is new u = record {
    more = 0;
    up = λ e. refl;
    failed = λ e. let never : true ≡ false = sym is ∙ e in absurd (grind arith);
    stands = up-stands d opens n a b x low high is new u;
    rise = up-rise n d.cluster a b x new u;
    generation = (opened-empty n d.cluster a b x new u).1;
  }

  stayed-down : (d : DocumentData) (opens : NodeId → Bool) (n : NodeId) (a b one two : D) → 1 ≤ n →
      n ≤ d.cluster.nodes → opens n ≡ false → AreNew g a b → StaysDown g a b one two →
      IsBehind d opens n a b (Down one two never_up)
  stayed-down d opens n a b one two low high is new s =
      let first = fails d [] n a b one two new s
      (new-stands d n (shown g a) (shown g b) new.first_new new.second_new) in
      record {
        more = first.0.turn.more;
        up = λ e. let never : true ≡ false = sym e ∙ is in absurd (grind arith);
        failed = λ e. first.1;
        stands = still-stands d opens n a b one two low high is new s;
        rise = first.0.turn.rise;
        generation = refl;
      }

  is-behind : (d : DocumentData) (opens : NodeId → Bool) (n : NodeId) (a b : D) (o : Bool) (p : Place D g)
      (r : Restarted) → 1 ≤ n → n ≤ d.cluster.nodes → opens n ≡ o → AreNew g a b →
      Reopens n d.cluster a b never_up p r → Ends o r → IsBehind d opens n a b p
  is-behind d opens n a b true (Up x) (restarted.Up f) low high is new opened e =
      came-up d opens n a b x low high is new opened.up
  is-behind d opens n a b true (Down one two fall) (restarted.Up f) low high is new opened e = absurd opened
  is-behind d opens n a b true p restarted.StillDown low high is new opened e = absurd e
  is-behind d opens n a b true p restarted.Memory low high is new opened e = absurd e
  is-behind d opens n a b false p (restarted.Up f) low high is new opened e = absurd e
  is-behind d opens n a b false (Up x) restarted.StillDown low high is new opened e = absurd opened
  is-behind d opens n a b false (Down one two fall) restarted.StillDown low high is new opened e =
      subst (λ k. IsBehind d opens n a b (Down one two k)) (sym opened.1)
      (stayed-down d opens n a b one two low high is new opened.0)
  is-behind d opens n a b false p restarted.Memory low high is new opened e = absurd e

  -- ---- all nodes

  -- the host in this place follows the start
  record IsStarted (d : DocumentData) (given : ℕ → ℕ) (hosts : List (Host D g)) (opens : NodeId → Bool) (n : NodeId)
      (more : ℕ) : Type 0 where
    pub up : opens n ≡ true → more ≡ 0
    pub failed : opens n ≡ false → 1 ≤ more
    pub host : (x : Host D g) × (slice_get hosts (n - 1) ≡ Some x)
        × HostFollows d 0 (start_row d.cluster.nodes opens) given more n x

  -- a rise of n, by which it follows where it is a node of the cluster
  record Start (d : DocumentData) (given : ℕ → ℕ) (hosts : List (Host D g)) (opens : NodeId → Bool) (n : NodeId) :
      Type 0 where
    pub more : ℕ
    pub inside : 1 ≤ n → n ≤ d.cluster.nodes → IsStarted d given hosts opens n more
    pub outside : (n < 1) ⊎ (d.cluster.nodes < n) → more ≡ 0

  started : (d : DocumentData) (given : ℕ → ℕ) (hosts : List (Host D g)) (opens : NodeId → Bool) (n : NodeId)
      (x : Host D g) → 1 ≤ n → n ≤ d.cluster.nodes → slice_get hosts (n - 1) ≡ Some x →
      HasStarted d.cluster given n (opens n) x → Start d given hosts opens n
  started d given hosts opens n x low high at s =
      let b : IsBehind d opens n s.first s.second x.place =
      is-behind d opens n s.first s.second (opens n) x.place s.restarted low high refl s.new s.opened s.ends in
      record {
        more = b.more;
        inside = λ least most. record {
          up = b.up;
          failed = b.failed;
          host = (
            x,
            at,
            record {
              stands = record { id = s.id; place = b.stands };
              rises = rw (s.given_first, s.given_second) b.rise;
              generation = omega (arith, b.generation);
            },
          );
        };
        outside = λ out. let never : ⊥ = elim out [
          | inl below ↦ omega (arith, below, low)
          | inr above ↦ omega (arith, above, high)
        ] in absurd never;
      }

  apart : (d : DocumentData) (given : ℕ → ℕ) (hosts : List (Host D g)) (opens : NodeId → Bool) (n : NodeId) →
      (n < 1) ⊎ (d.cluster.nodes < n) → Start d given hosts opens n
  apart d given hosts opens n out = record {
    more = 0;
    inside = λ least most. let never : ⊥ = elim out [
      | inl below ↦ omega (arith, below, least)
      | inr above ↦ omega (arith, above, most)
    ] in absurd never;
    outside = λ out. refl;
  }

  pub start-follows : (d : DocumentData) (given : ℕ → ℕ) (hosts : List (Host D g)) (opens : NodeId → Bool) →
      length hosts ≡ d.cluster.nodes →
      ((n : NodeId) → 1 ≤ n → n ≤ d.cluster.nodes →
      (x : Host D g) × (slice_get hosts (n - 1) ≡ Some x) × HasStarted d.cluster given n (opens n) x) →
      HostsFollow d 0 (start_row d.cluster.nodes opens) given hosts
  start-follows d given hosts opens nodes known = record {
    rise = rise;
    lawful = so_far-start d opens rise has-opened;
    nodes = nodes;
    host = λ n low high. ((each n).inside low high).host;
  }
    where
      each : (n : NodeId) → Start d given hosts opens n
      each n = elim (cases_lt n 1) [
        | inl below ↦ apart d given hosts opens n (inl below)
        | inr low ↦ elim (cases_lt d.cluster.nodes n) [
          | inl above ↦ apart d given hosts opens n (inr above)
          | inr high ↦
              let x = known n low high in
              started d given hosts opens n x.0 low high x.1 x.2
        ]
      ]

      rise : NodeId → ℕ
      rise n = (each n).more

      calm : (n : NodeId) → opens n ≡ true → rise n ≡ 0
      calm n up = elim (cases_lt n 1) [
        | inl below ↦ (each n).outside (inl below)
        | inr low ↦ elim (cases_lt d.cluster.nodes n) [
          | inl above ↦ (each n).outside (inr above)
          | inr high ↦ ((each n).inside low high).up up
        ]
      ]

      has-opened : HasOpened d.cluster.nodes opens rise
      has-opened = record {
        up = calm;
        failed = λ n down low high. ((each n).inside low high).failed down;
        below = (each 0).outside (inl (omega arith));
        above = λ n high. (each n).outside (inr (omega (arith, high)));
      }
