-- A world whose nodes are opened one after the other follows the run behind its start.
use Rattle.std.proofs.Common.{◌≡◌, ℕ, ◌+◌, ◌-◌, ◌*◌, ◌≤◌, ◌<◌, zero, suc, Bool, true, false, List, [], ◌∷◌, ◌++◌, drop, length, map, Option, Some, refl, sym, ap, subst, ◌∙◌, ◌==◌, arith, if◌then◌else◌}
use Rattle.std.specs.Prelude.{slice_get, slice_set}
use Rattle.std.specs.List.{list_all, range_with_len}
use Rattle.std.proofs.lemmas.Bool.{and_from}
use Rattle.placement.specs.Clusters.{ClusterData}
use Rattle.score_disk.specs.declared.disk.Disk.{Ghosts}
use Rattle.grid_model.specs.declared.acts.Act.{Act}
use Rattle.grid_model.specs.declared.acts.Act.TheVariants as act
use Rattle.grid_model.specs.declared.acts.Flag.TheVariants as flag
use Rattle.grid_model.specs.Documents.{DocumentData}
use Rattle.grid_model.specs.Schedules.{start_act, start_row}
use Rattle.disk_laws.specs.Holds.{first_of_node, second_of_node}
use Rattle.grid_model.specs.Histories.{is_gone}
use Rattle.sent_list.specs.SentLists.{SentStart, ShowsSent, is_marked, is_silent}
use Rattle.run_tally.specs.Tallies.{tally_after}
use Rattle.grid_hosts.specs.declared.hosts.Host.{Host}
use Rattle.grid_hosts.specs.declared.hosts.Place.{Place}
use Rattle.grid_hosts.specs.declared.openings.Restarted.{Restarted}
use Rattle.grid_hosts.specs.declared.openings.Restarted.TheVariants as restarted
use Rattle.grid_hosts.specs.Hosts.{CanOpen, HasRestarted, IsNew, ReopensAt, Reopens}
use Rattle.host_laws.specs.Starts.{AreNew, Ends, HasStarted, never_up}
use Rattle.host_laws.specs.Follows.{HostsFollow}
use Rattle.grid_world.proofs.ForCode.{first-untouched, new-openable, start-follows, unsome}
use Rattle.grid_world.specs.declared.worlds.World.{World}
use Rattle.grid_world.specs.Follows.{owns, own_in}
use Rattle.grid_world.specs.Starts.{AreDisksOf, AreSeated, HasOpenedOne, IsFresh, IsOpenedAct, Opens, none, more}
use Rattle.grid_world.specs.Worlds.{CanReopen, HasTold, KeepsRest}
use Rattle.grid_world.proofs.QuietRows.{keeps-both, keeps-room}
use Rattle.grid_world.proofs.SilentActs.{silent_all}

-- whether an act is an opening that came up
abbrev pub is_up : Option Act → Bool
is_up (Some (act.Up n f)) = true
is_up o = false

-- ---- the start row sends nothing

silent_act : (b : Bool) (n : ℕ) → is_silent (if b then act.Up n flag.Untouched else act.StillDown n) ≡ true
silent_act true n = refl
silent_act false n = refl

silent_start : (opens : ℕ → Bool) (a n : ℕ) → list_all is_silent (map (start_act opens) (range_with_len a n)) ≡ true
silent_start opens a zero = refl
silent_start opens a (suc n) =
    and_from (is_silent (start_act opens a)) (list_all is_silent (map (start_act opens) (range_with_len (a + 1) n)))
    (silent_act (opens a) a) (silent_start opens (a + 1) n)

shows_none : ShowsSent SentStart []
shows_none = record { marks = refl; sent = refl; gone = λ m. unmarked m (m == 0) refl }
  where
    unmarked : (m : ℕ) (b : Bool) → (m == 0) ≡ b → is_marked [] m ≡ is_gone [] m
    unmarked m true is = rw is refl
    unmarked m false is = rw is refl

opened_ends : (n : ℕ) (r : Restarted) (said : Act) (opens : Bool) → IsOpenedAct n r said → opens ≡ is_up (Some said)
    → Ends opens r
opened_ends n (restarted.Up f) said opens named same =
    subst (λ x. Ends x (restarted.Up f)) (sym (same ∙ ap (λ x. is_up (Some x)) named)) tt
opened_ends n restarted.StillDown said opens named same =
    subst (λ x. Ends x restarted.StillDown) (sym (same ∙ ap (λ x. is_up (Some x)) named)) tt
opened_ends n restarted.Memory said opens named same = absurd named

-- acts that are those of a start row, one by one
row_of : (opens : ℕ → Bool) (n : ℕ) (acts : List Act)
    → ((j : ℕ) → j < length acts → (a : Act) × (slice_get acts j ≡ Some a) × (a ≡ start_act opens (n + j)))
    → acts ≡ map (start_act opens) (range_with_len n (length acts))
row_of opens n [] each = refl
row_of opens n (a ∷ acts) each =
    let first = each 0 (omega arith) in
    let same : a ≡ start_act opens n =
    unsome a first.0 first.1 ∙ first.2 ∙ ap (start_act opens) (omega arith) in
    let rest : acts ≡ map (start_act opens) (range_with_len (n + 1) (length acts)) =
    row_of opens (n + 1) acts (λ j most.
    let u = each (suc j) (omega (arith, most)) in (u.0, u.1, u.2 ∙ ap (start_act opens) (omega arith))) in
    ap (λ x. x ∷ acts) same ∙ ap (λ xs. start_act opens n ∷ xs) rest

module _ {D : Type 0} {g : Ghosts D} where
  -- ---- the seats of new hosts

  -- one host more
  pub seated-more : (a b : D) (rest : List D) (n : ℕ) (given : List D) (hosts : List (Host D g)) (x : Host D g)
      → AreSeated n given hosts (a ∷ b ∷ rest) → IsNew (n + length hosts) a b x
      → AreSeated n given (hosts ++ x ∷ []) rest
  seated-more a b rest n _ [] x (none _ _) new =
      more n a b rest x [] rest (subst (λ k. IsNew k a b x) (omega arith) new) (none (n + 1) rest)
  seated-more a b rest n _ (h ∷ hosts) x (more _ first second disks _ _ _ is s) new =
      more n first second disks h (hosts ++ x ∷ []) rest is
      (seated-more a b rest (n + 1) disks hosts x s (subst (λ k. IsNew k a b x) (omega arith) new))

  -- so many disks are taken
  pub seated-count : (n : ℕ) (given : List D) (hosts : List (Host D g)) (rest : List D) → AreSeated n given hosts rest
      → length given ≡ 2 * length hosts + length rest
  seated-count n given [] rest (none _ _) = omega arith
  seated-count n _ (h ∷ hosts) rest (more _ a b disks _ _ _ is s) =
      let under = seated-count (n + 1) disks hosts rest s in omega (arith, under)

  pub disks-count : (n : ℕ) (disks : List D) → AreDisksOf g n disks → 2 * n ≤ length disks
  disks-count _ disks (none _) = omega arith
  disks-count _ _ (more k a b rest new are) = let under = disks-count k rest are in omega (arith, under)

  pub disks-same : (m n : ℕ) (disks : List D) → m ≡ n → AreDisksOf g n disks → AreDisksOf g m disks
  disks-same m n disks same are = subst (λ k. AreDisksOf g k disks) (sym same) are

  pub seated-rest : (n : ℕ) (given : List D) (hosts : List (Host D g)) (rest : List D) → AreSeated n given hosts rest
      → rest ≡ drop (2 * length hosts) given
  seated-rest n given [] rest (none _ _) = refl
  seated-rest n _ (h ∷ hosts) rest (more _ a b disks _ _ _ is s) =
      let two : 2 * length (h ∷ hosts) ≡ suc (suc (2 * length hosts)) = omega arith in
      rw two (seated-rest (n + 1) disks hosts rest s)

  -- ---- hosts that were opened

  -- These hosts were opened in order, with these acts, from n on; those behind are as they were.
  pub data AreOpened (c : ClusterData) : ℕ → List (Host D g) → List (Host D g) → List Act → Type 0 where
    unopened : (n : ℕ) (hosts : List (Host D g)) → AreOpened c n hosts hosts []
    opened : (n : ℕ) (x y : Host D g) (hosts now : List (Host D g)) (r : Restarted) (a : Act) (acts : List Act)
        → HasRestarted c x y r → IsOpenedAct n r a → AreOpened c (n + 1) hosts now acts
        → AreOpened c n (x ∷ hosts) (y ∷ now) (a ∷ acts)

  pub opened-more : (c : ClusterData) (n : ℕ) (hosts now : List (Host D g)) (acts : List Act) (x y : Host D g)
      (r : Restarted) (a : Act) → AreOpened c n hosts now acts → slice_get now (length acts) ≡ Some x
      → HasRestarted c x y r → IsOpenedAct (n + length acts) r a
      → AreOpened c n hosts (slice_set now (length acts) y) (acts ++ a ∷ [])
  opened-more c n [] _ _ x y r a (unopened _ _) at is named = cc
  opened-more c n (h ∷ hosts) _ _ x y r a (unopened _ _) at is named =
      let same : h ≡ x = unsome h x at in
      opened n h y hosts hosts r a [] (subst (λ z. HasRestarted c z y r) (sym same) is)
      (subst (λ k. IsOpenedAct k r a) (omega arith) named) (unopened (n + 1) hosts)
  opened-more c n (h ∷ hosts) (k ∷ now) (b ∷ acts) x y r a (opened _ _ _ _ _ s _ _ was said later) at is named =
      opened n h k hosts (slice_set now (length acts) y) s b (acts ++ a ∷ []) was said
      (opened-more c (n + 1) hosts now acts x y r a later at is (subst (λ j. IsOpenedAct j r a) (omega arith) named))

  -- those behind are as they were
  pub opened-behind : (c : ClusterData) (n : ℕ) (hosts now : List (Host D g)) (acts : List Act) (j : ℕ)
      → AreOpened c n hosts now acts → length acts ≤ j → slice_get now j ≡ slice_get hosts j
  opened-behind c n hosts _ _ j (unopened _ _) least = refl
  opened-behind c n (h ∷ hosts) (k ∷ now) (b ∷ acts) zero (opened _ _ _ _ _ s _ _ was said later) least =
      let never : ⊥ = omega (arith, least) in absurd never
  opened-behind c n (h ∷ hosts) (k ∷ now) (b ∷ acts) (suc j) (opened _ _ _ _ _ s _ _ was said later) least =
      opened-behind c (n + 1) hosts now acts j later (omega (arith, least))

  pub opened-length : (c : ClusterData) (n : ℕ) (hosts now : List (Host D g)) (acts : List Act)
      → AreOpened c n hosts now acts → length now ≡ length hosts
  opened-length c n hosts _ _ (unopened _ _) = refl
  opened-length c n (h ∷ hosts) (k ∷ now) (b ∷ acts) (opened _ _ _ _ _ s _ _ was said later) =
      ap suc (opened-length c (n + 1) hosts now acts later)

  -- ---- a host that is new

  -- the host in place j of these is a new one over its two new disks; it is node n
  pub record NewAt (given : List D) (hosts : List (Host D g)) (n j : ℕ) : Type 0 where
    pub x : Host D g
    pub a : D
    pub b : D
    pub at : slice_get hosts j ≡ Some x
    pub first : slice_get given (2 * j) ≡ Some a
    pub second : slice_get given (2 * j + 1) ≡ Some b
    pub new : AreNew g a b
    pub is : IsNew n a b x

  pub new-at : (n : ℕ) (given : List D) (hosts : List (Host D g)) (rest : List D) (k : ℕ) → AreSeated n given hosts rest
      → AreDisksOf g k given → length hosts ≤ k → (j : ℕ) → j < length hosts → NewAt given hosts (n + j) j
  new-at n given [] rest k (none _ _) are few j most = let never : ⊥ = omega (arith, most) in absurd never
  new-at n _ (h ∷ hosts) rest _ (more _ a b disks _ _ _ is s) (none _) few j most =
      let never : ⊥ = omega (arith, few) in absurd never
  new-at n _ (h ∷ hosts) rest _ (more _ a b disks _ _ _ is s) (more k' _ _ _ new are) few zero most =
      record {
        x = h;
        a = a;
        b = b;
        at = refl;
        first = refl;
        second = refl;
        new = new;
        is = subst (λ m. IsNew m a b h) (omega arith) is;
      }
  new-at n _ (h ∷ hosts) rest _ (more _ a b disks _ _ _ is s) (more k' _ _ _ new are) few (suc j) most =
      let u : NewAt disks hosts (n + 1 + j) j = new-at (n + 1) disks hosts rest k' s are (omega (arith, few)) j (omega (arith, most)) in
      let two : 2 * suc j ≡ suc (suc (2 * j)) = omega arith in
      let next : 2 * suc j + 1 ≡ suc (suc (2 * j + 1)) = omega arith in
      record {
        x = u.x;
        a = u.a;
        b = u.b;
        at = u.at;
        first = rw two u.first;
        second = rw next u.second;
        new = u.new;
        is = subst (λ m. IsNew m u.a u.b u.x) (omega arith) u.is;
      }

  -- ---- the start row

  -- a host that was opened in its place came of what stood there, with its act
  pub record OpenedAt (c : ClusterData) (hosts now : List (Host D g)) (acts : List Act) (n j : ℕ) : Type 0 where
    pub x : Host D g
    pub y : Host D g
    pub r : Restarted
    pub a : Act
    pub before : slice_get hosts j ≡ Some x
    pub behind : slice_get now j ≡ Some y
    pub opens : HasRestarted c x y r
    pub told : slice_get acts j ≡ Some a
    pub act : IsOpenedAct n r a

  pub opened-at : (c : ClusterData) (n : ℕ) (hosts now : List (Host D g)) (acts : List Act) → AreOpened c n hosts now acts
      → (j : ℕ) → j < length acts → OpenedAt c hosts now acts (n + j) j
  opened-at c n hosts _ _ (unopened _ _) j most = let never : ⊥ = omega (arith, most) in absurd never
  opened-at c n _ _ _ (opened _ x y hosts' now' r a acts' is said later) zero most = record {
    x = x;
    y = y;
    r = r;
    a = a;
    before = refl;
    behind = refl;
    opens = is;
    told = refl;
    act = subst (λ k. IsOpenedAct k r a) (omega arith) said;
  }
  opened-at c n _ _ _ (opened _ x y hosts' now' r a acts' is said later) (suc j) most =
      let u : OpenedAt c hosts' now' acts' (n + 1 + j) j = opened-at c (n + 1) hosts' now' acts' later j (omega (arith, most)) in
      record {
        x = u.x;
        y = u.y;
        r = u.r;
        a = u.a;
        before = u.before;
        behind = u.behind;
        opens = u.opens;
        told = u.told;
        act = subst (λ k. IsOpenedAct k u.r u.a) (omega arith) u.act;
      }

  -- the act of a first opening is one of the start row
  opened_act : (c : ClusterData) (n : ℕ) (a b : D) (p : Place D g) (r : Restarted) (said : Act) (opens : ℕ → Bool)
      → Reopens n c a b never_up p r → IsOpenedAct n r said → opens n ≡ is_up (Some said) → said ≡ start_act opens n
  opened_act c n a b p (restarted.Up f) said opens is named same =
      let up : opens n ≡ true = same ∙ ap (λ x. is_up (Some x)) named in
      named ∙ ap (act.Up n) (first-untouched n c a b p f is) ∙ sym (ap (λ x. if x then act.Up n flag.Untouched else act.StillDown n) up)
  opened_act c n a b p restarted.StillDown said opens is named same =
      let down : opens n ≡ false = same ∙ ap (λ x. is_up (Some x)) named in
      named ∙ sym (ap (λ x. if x then act.Up n flag.Untouched else act.StillDown n) down)
  opened_act c n a b p restarted.Memory said opens is named same = absurd named

  new_reopens : (c : ClusterData) (n : ℕ) (x y : Host D g) (a b : D) (r : Restarted) → IsNew n a b x
      → HasRestarted c x y r → Reopens n c a b never_up y.place r
  new_reopens c n x y a b r new is =
      subst (λ k. Reopens k c a b never_up y.place r) new.id_is
      (subst (λ p. ReopensAt x.id c p y.place r) new.place is.place)

  -- what is known of node j + 1
  pub started-at : (d : DocumentData) (given : List D) (hosts now : List (Host D g)) (acts : List Act) (n j : ℕ)
      (opens : ℕ → Bool) (u : NewAt given hosts n j) (o : OpenedAt d.cluster hosts now acts n j) → n ≡ j + 1
      → opens n ≡ is_up (Some o.a) → HasStarted d.cluster (owns g given) n (opens n) o.y
  started-at d given hosts now acts n j opens u o is same =
      let x_is : u.x ≡ o.x = unsome u.x o.x (sym u.at ∙ o.before) in
      let new : IsNew n u.a u.b o.x = subst (IsNew n u.a u.b) x_is u.is in
      let one : first_of_node n ≡ 2 * j = omega (arith, is) in
      let two : second_of_node n ≡ 2 * j + 1 = omega (arith, is) in
      record {
        first = u.a;
        second = u.b;
        new = u.new;
        given_first = ap (owns g given) one ∙ ap (own_in g) u.first;
        given_second = ap (owns g given) two ∙ ap (own_in g) u.second;
        id = o.opens.id ∙ new.id_is;
        restarted = o.r;
        opened = new_reopens d.cluster n o.x o.y u.a u.b o.r new o.opens;
        ends = opened_ends n o.r o.a (opens n) o.act same;
      }

  -- ---- the world behind its openings

  -- Behind the openings of the first nodes, with these acts, the world has their hosts as they were opened, and else is
  -- as it was.
  pub record OpenedTo (d : DocumentData) (w now : World D g) (acts : List Act) : Type 0 where
    pub hosts : AreOpened d.cluster 1 w.hosts.items now.hosts.items acts
    pub network : now.network ≡ w.network
    pub tally : now.tally ≡ w.tally
    pub keeps : KeepsRest w now

  pub opened-none : (d : DocumentData) (w : World D g) → OpenedTo d w w []
  opened-none d w = record {
    hosts = unopened 1 w.hosts.items;
    network = refl;
    tally = refl;
    keeps = record { rest = refl; given_up = refl };
  }

  -- the next node can be opened
  pub opened-opens : (d : DocumentData) (given : List D) (w now : World D g) (acts : List Act) (n : ℕ) → IsFresh d given w
      → OpenedTo d w now acts → n ≡ length acts + 1 → n ≤ d.cluster.nodes → CanReopen d n now
  opened-opens d given w now acts n fresh o is most =
      let inside : length acts < length w.hosts.items = omega (arith, is, most, fresh.nodes) in
      let u : NewAt given w.hosts.items (1 + length acts) (length acts) =
      new-at 1 given w.hosts.items w.rest.items d.cluster.nodes fresh.seated fresh.disks (omega (arith, fresh.nodes)) (length acts) inside in
      let place : n - 1 ≡ length acts = omega (arith, is) in
      let there : slice_get now.hosts.items (n - 1) ≡ Some u.x =
      ap (slice_get now.hosts.items) place ∙ opened-behind d.cluster 1 w.hosts.items now.hosts.items acts (length acts) o.hosts (omega arith) ∙ u.at in
      let number : u.x.id ≡ n = u.is.id_is ∙ omega (arith, is) in
      record {
        host = u.x;
        at = there;
        opens = subst (CanOpen n d.cluster) (sym u.is.place) (new-openable g n d.cluster u.a u.b u.new);
        id = number;
      }

  pub opened-next : (d : DocumentData) (w mid now : World D g) (acts : List Act) (n : ℕ) (a : Act)
      → OpenedTo d w mid acts → HasOpenedOne d n mid now a → n ≡ length acts + 1 → OpenedTo d w now (acts ++ a ∷ [])
  opened-next d w mid now acts n a o one is =
      let m = one.moved.moved in
      let place : n - 1 ≡ length acts = omega (arith, is) in
      let number : n ≡ 1 + length acts = omega (arith, is) in
      record {
        hosts = rw (m.hosts, place)
            (opened-more d.cluster 1 w.hosts.items mid.hosts.items acts m.before m.now one.restarted a o.hosts
            (subst (λ k. slice_get mid.hosts.items k ≡ Some m.before) place m.at) m.turned
            (subst (λ k. IsOpenedAct k one.restarted a) number one.act));
        network = one.moved.network ∙ o.network;
        tally = m.tally ∙ o.tally;
        keeps = keeps-both w mid now o.keeps m.keeps;
      }

  -- all are opened
  pub opened-all : (d : DocumentData) (w mid w' : World D g) (acts : List Act) → OpenedTo d w mid acts
      → length acts ≡ d.cluster.nodes → HasTold d acts mid w' → Opens d w w' acts
  opened-all d w mid w' acts o count told = λ given fresh.
      let opens : ℕ → Bool = λ m. is_up (slice_get acts (m - 1)) in
      let nodes : ℕ = d.cluster.nodes in
      let known : (j : ℕ) → j < nodes
      → NewAt given w.hosts.items (1 + j) j × OpenedAt d.cluster w.hosts.items mid.hosts.items acts (1 + j) j =
      λ j most. (
        new-at 1 given w.hosts.items w.rest.items nodes fresh.seated fresh.disks (omega (arith, fresh.nodes)) j (omega (arith, most, fresh.nodes)),
        opened-at d.cluster 1 w.hosts.items mid.hosts.items acts o.hosts j (omega (arith, most, count)),
      ) in
      let flag_is : (j : ℕ) (a : Act) → slice_get acts j ≡ Some a → opens (1 + j) ≡ is_up (Some a) =
      λ j a at. let place : 1 + j - 1 ≡ j = omega arith in ap is_up (ap (slice_get acts) place ∙ at) in
      let row : acts ≡ start_row nodes opens =
      subst (λ k. acts ≡ map (start_act opens) (range_with_len 1 k)) count
      (row_of opens 1 acts (λ j most.
      let u = known j (omega (arith, most, count)) in
      let x_is : u.0.x ≡ u.1.x = unsome u.0.x u.1.x (sym u.0.at ∙ u.1.before) in (
        u.1.a,
        u.1.told,
        opened_act d.cluster (1 + j) u.0.a u.0.b u.1.y.place u.1.r u.1.a opens
            (new_reopens d.cluster (1 + j) u.1.x u.1.y u.0.a u.0.b u.1.r (subst (IsNew (1 + j) u.0.a u.0.b) x_is u.0.is) u.1.opens)
            u.1.act (flag_is j u.1.a u.1.told),
      ))) in
      let same : w'.hosts ≡ mid.hosts = told.hosts in
      let keeps : KeepsRest w w' = keeps-both w mid w' o.keeps told.keeps in
      let hosts : HostsFollow d 0 (start_row nodes opens) (owns g given) mid.hosts.items =
      start-follows d (owns g given) mid.hosts.items opens
      (opened-length d.cluster 1 w.hosts.items mid.hosts.items acts o.hosts ∙ fresh.nodes)
      (λ n least most.
      let u = known (n - 1) (omega (arith, least, most)) in
      let number : 1 + (n - 1) ≡ n = omega (arith, least) in (
        u.1.y,
        u.1.behind,
        subst (λ k. HasStarted d.cluster (owns g given) k (opens k) u.1.y) number
            (started-at d given w.hosts.items mid.hosts.items acts (1 + (n - 1)) (n - 1) opens u.0 u.1 (omega arith)
            (flag_is (n - 1) u.1.a u.1.told)),
      )) in (
        opens,
        row,
        record {
          hosts = rw (same, row) hosts;
          sent = rw (told.network, o.network, fresh.sent)
              (silent_all SentStart [] acts (rw row (silent_start opens 1 nodes)) shows_none);
          tally = told.tally ∙ ap (λ x. tally_after d x acts) (o.tally ∙ fresh.tally);
          seats = disks-count nodes given fresh.disks;
          rest = ap (λ x. x.items) keeps.rest ∙ seated-rest 1 given w.hosts.items w.rest.items fresh.seated
              ∙ ap (λ k. drop (2 * k) given) fresh.nodes;
          room = keeps-room w w' keeps
              (ap (λ x. length x.items) same ∙ opened-length d.cluster 1 w.hosts.items mid.hosts.items acts o.hosts) fresh.room;
        },
      )
