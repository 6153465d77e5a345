-- The disks of a world that followed a run to its end.
use Rattle.std.proofs.Common.{◌≡◌, ℕ, ◌+◌, ◌-◌, ◌*◌, ◌≤◌, zero, suc, List, [], ◌∷◌, ◌++◌, drop, length, Option, Some, None, refl, sym, ap, subst, ◌∙◌, arith, append_assoc, length-drop}
use Rattle.std.specs.Prelude.{slice_get, sum_by}
use Rattle.std.proofs.lemmas.List.{append-nil, length-append}
use Rattle.score_base.specs.declared.ids.NodeId.{NodeId}
use Rattle.score_disk.specs.declared.disk.Disk.{Ghosts}
use Rattle.grid_model.specs.declared.acts.Act.{Act}
use Rattle.grid_model.specs.Cuts.{cut}
use Rattle.grid_model.specs.Documents.{DocumentData, IsOne, events_of}
use Rattle.grid_model.specs.Histories.{after}
use Rattle.grid_model.specs.Runs.{Lawful}
use Rattle.grid_world.proofs.ForCode.{cut-one, first-is, held-end, last-is, lawful-whole, unsome}
use Rattle.disk_laws.specs.Seats.{HoldsLog, Stands, compacting, down, in_doubt, standing, up}
use Rattle.disk_laws.specs.Shown.{Shown, shown, seats}
use Rattle.grid_hosts.specs.declared.hosts.Host.{Host}
use Rattle.grid_hosts.specs.declared.hosts.Place.{Place}
use Rattle.grid_hosts.specs.declared.hosts.Place.TheVariants.{Up, Down}
use Rattle.grid_hosts.specs.Hosts.{EndsAt}
use Rattle.host_laws.specs.Standing as of_host
use Rattle.host_laws.specs.Standing.{first_disk, second_disk}
use Rattle.grid_world.specs.declared.worlds.World.{World}
use Rattle.grid_world.specs.Ends.{AreDisks, AreGivenUp, HasEnded, none, more}
use Rattle.grid_world.specs.Follows.{Follows, own_in}
use Rattle.grid_world.specs.Replays.{HasReplayed, file_in, files}

-- ---- a document that is cut has the same disks

holds_cut : (d : DocumentData) (e : ℕ) (past : List Act) (n : NodeId) (number : ℕ) (first second : List ℕ)
    → HoldsLog d past n number first second → HoldsLog (cut e d) past n number first second
holds_cut d e past n number first second (standing log) = standing log
holds_cut d e past n number first second (in_doubt last plain doubt found log) = in_doubt last plain doubt found log
holds_cut d e past n number first second (compacting was found log) = compacting was found log

stands_cut : (d : DocumentData) (e : ℕ) (past : List Act) (n : NodeId) (first second : Shown)
    → Stands d past n first second → Stands (cut e d) past n first second
stands_cut d e past n first second (up number s u is_first is_second) =
    up number s (record { up = u.up; rest = u.rest; tied = u.tied; plain = u.plain }) is_first is_second
stands_cut d e past n first second (down number u) =
    down number
    (record {
      down = u.down;
      first_settled = u.first_settled;
      second_settled = u.second_settled;
      holds = holds_cut d e past n number first.file.seen second.file.seen u.holds;
      tied = u.tied;
      fresh = u.fresh;
      plain = u.plain;
    })

-- ---- places of lists

pub length-none : {A : Type 0} (xs : List A) → length xs ≡ 0 → xs ≡ []
length-none [] count = refl
length-none (x ∷ xs) count = cc

get-append : {A : Type 0} (xs ys : List A) (i : ℕ) (x : A) → slice_get xs i ≡ Some x → slice_get (xs ++ ys) i ≡ Some x
get-append [] ys i x at = cc
get-append (y ∷ xs) ys zero x at = at
get-append (y ∷ xs) ys (suc i) x at = get-append xs ys i x at

get-behind : {A : Type 0} (xs ys : List A) (i : ℕ) → slice_get (xs ++ ys) (length xs + i) ≡ slice_get ys i
get-behind {A} [] ys i = let none : length {A = A} [] + i ≡ i = omega arith in ap (slice_get ys) none
get-behind (x ∷ xs) ys i =
    let one : length (x ∷ xs) + i ≡ suc (length xs + i) = omega arith in
    ap (slice_get (x ∷ (xs ++ ys))) one ∙ get-behind xs ys i

get-drop : {A : Type 0} (n : ℕ) (xs : List A) (i : ℕ) → slice_get (drop n xs) i ≡ slice_get xs (n + i)
get-drop zero xs i = let none : i ≡ 0 + i = omega arith in ap (slice_get xs) none
get-drop (suc n) [] i = refl
get-drop (suc n) (x ∷ xs) i =
    let one : suc (n + i) ≡ suc n + i = omega arith in get-drop n xs i ∙ ap (slice_get (x ∷ xs)) one

module _ {D : Type 0} (g : Ghosts D) where
  abbrev left_in : Option D → Option ℕ
  left_in None = None
  left_in (Some disk) = g.left disk

  -- what the disk in a place shows, where there is one
  abbrev shown_at : Option D → Shown
  shown_at o = record { file = file_in g o; left = left_in o; own = own_in g o }

module _ {D : Type 0} {g : Ghosts D} where
  -- ---- the disks that a world gives up

  pub disks-length : (hosts : List (Host D g)) (disks : List D) → AreDisks hosts disks → length disks ≡ 2 * length hosts
  disks-length [] disks none = refl
  disks-length (h ∷ hosts) _ (more _ _ a b disks ends are) =
      let under = disks-length hosts disks are in omega (arith, under)

  -- the two disks of the host in place j
  record DisksAt (disks : List D) (x : Host D g) (j : ℕ) : Type 0 where
    first : slice_get disks (2 * j) ≡ Some (first_disk x.place)
    second : slice_get disks (2 * j + 1) ≡ Some (second_disk x.place)

  ends_first : (p : Place D g) (a b : D) → EndsAt p a b → a ≡ first_disk p
  ends_first (Up x) a b e = e.0
  ends_first (Down one two fall) a b e = e.0

  ends_second : (p : Place D g) (a b : D) → EndsAt p a b → b ≡ second_disk p
  ends_second (Up x) a b e = e.1
  ends_second (Down one two fall) a b e = e.1

  disks-at : (hosts : List (Host D g)) (disks : List D) → AreDisks hosts disks → (j : ℕ) (x : Host D g)
      → slice_get hosts j ≡ Some x → DisksAt disks x j
  disks-at [] disks none j x at = cc
  disks-at (h ∷ hosts) _ (more _ _ a b disks ends are) zero x at =
      let same : h ≡ x = unsome h x at in
      subst (λ y. DisksAt (a ∷ b ∷ disks) y 0) same
      (record { first = ap Some (ends_first h.place a b ends); second = ap Some (ends_second h.place a b ends) })
  disks-at (h ∷ hosts) _ (more _ _ a b disks ends are) (suc j) x at =
      let u : DisksAt disks x j = disks-at hosts disks are j x at in
      let two : 2 * suc j ≡ suc (suc (2 * j)) = omega arith in
      let next : 2 * suc j + 1 ≡ suc (suc (2 * j + 1)) = omega arith in
      record { first = rw two u.first; second = rw next u.second }

  -- one host more
  pub given-more : (hosts : List (Host D g)) (h : Host D g) (old new : List D) (a b : D) → AreGivenUp hosts old new
      → EndsAt h.place a b → AreGivenUp (hosts ++ h ∷ []) old ((new ++ a ∷ []) ++ b ∷ [])
  given-more hosts h old new a b u ends = record {
    disks = u.disks ++ a ∷ b ∷ [];
    are = disks-more hosts u.disks u.are;
    behind =
        append_assoc new (a ∷ []) (b ∷ [])
        ∙ ap (λ xs. xs ++ a ∷ b ∷ []) u.behind ∙ append_assoc old u.disks (a ∷ b ∷ []);
  }
    where
      disks-more : (hosts : List (Host D g)) (disks : List D) → AreDisks hosts disks
          → AreDisks (hosts ++ h ∷ []) (disks ++ a ∷ b ∷ [])
      disks-more [] _ none = more h [] a b [] ends none
      disks-more (k ∷ hosts) _ (more _ _ c e disks is are) = more k (hosts ++ h ∷ []) c e (disks ++ a ∷ b ∷ []) is (disks-more hosts disks are)

  -- those hosts of a list that stand before the rest were given up
  pub record GivenUpTo (hosts rest : List (Host D g)) (old new : List D) : Type 0 where
    pub before : List (Host D g)
    pub are : hosts ≡ before ++ rest
    pub given : AreGivenUp before old new

  pub given-none : (hosts : List (Host D g)) (old : List D) → GivenUpTo hosts hosts old old
  given-none hosts old = record {
    before = [];
    are = refl;
    given = record { disks = []; are = none; behind = sym (append-nil old) };
  }

  pub given-next : (hosts : List (Host D g)) (h : Host D g) (rest : List (Host D g)) (old new : List D) (a b : D)
      → GivenUpTo hosts (h ∷ rest) old new → EndsAt h.place a b → GivenUpTo hosts rest old ((new ++ a ∷ []) ++ b ∷ [])
  given-next hosts h rest old new a b u ends = record {
    before = u.before ++ h ∷ [];
    are = u.are ∙ sym (append_assoc u.before (h ∷ []) rest);
    given = given-more u.before h old new a b u.given ends;
  }

  pub given-all : (hosts : List (Host D g)) (old new : List D) → GivenUpTo hosts [] old new → AreGivenUp hosts old new
  given-all hosts old new u = subst (λ xs. AreGivenUp xs old new) (sym (u.are ∙ append-nil u.before)) u.given

  -- ---- what they hold

  stands-end : (d : DocumentData) (past : List Act) (n : NodeId) (p : Place D g) → of_host.Stands d past n p
      → Stands d past n (shown g (first_disk p)) (shown g (second_disk p))
  stands-end d past n (Up x) s = up x.pair.number (seats x.pair) s.disks (sym (first-is x.pair)) (sym (last-is x.pair))
  stands-end d past n (Down a b fall) s = down fall.generation s.disks

  -- what a world leaves of a document x of these acts, that stands as the document does
  left_behind : (d x : DocumentData) (e : ℕ) (h : List Act) (given left : List D) (w : World D g) → IsOne x
      → x.cluster.nodes ≡ d.cluster.nodes → (f : Follows d e h given w) → Lawful x h f.hosts.rise
      → ((n : NodeId) (a b : Shown) → Stands d (after [] h) n a b → Stands x (after [] h) n a b) → HasEnded w left
      → HasReplayed g x given left h
  left_behind d x e h given left w one same f lawful stands ended = record {
    rise = f.hosts.rise;
    lawful = lawful;
    rises = λ n least most.
        let few : n ≤ d.cluster.nodes = subst (λ k. n ≤ k) same most in
        let y = f.hosts.host n least few in
        let at : DisksAt left y.0 (n - 1) = place n least few in
        rw (ap (own_in g) at.first, ap (own_in g) at.second) y.2.rises;
    holds =
        held-end x h (files g given) (λ m. shown_at g (slice_get left m)) one lawful.run
        (λ n least most.
        let few : n ≤ d.cluster.nodes = subst (λ k. n ≤ k) same most in
        let y = f.hosts.host n least few in
        let at : DisksAt left y.0 (n - 1) = place n least few in
        rw (ap (shown_at g) at.first, ap (shown_at g) at.second)
        (stands n (shown g (first_disk y.0.place)) (shown g (second_disk y.0.place))
        (stands-end d (after [] h) n y.0.place y.2.stands.place)))
        (λ m past. ap (file_in g) (others m (subst (λ k. 2 * k ≤ m) same past)));
    places =
        let all = ap length ended.all ∙ length-append ended.of_nodes w.rest.items in
        let behind = ap length f.rest ∙ length-drop (2 * d.cluster.nodes) given in
        let enough = f.seats in
        omega (arith, all, behind, count, enough);
  }
    where
      count : length ended.of_nodes ≡ 2 * d.cluster.nodes
      count = disks-length w.hosts.items ended.of_nodes ended.are ∙ ap (λ k. 2 * k) f.hosts.nodes

      place : (n : NodeId) (least : 1 ≤ n) (most : n ≤ d.cluster.nodes) → DisksAt left (f.hosts.host n least most).0 (n - 1)
      place n least most =
          let y = f.hosts.host n least most in
          let u : DisksAt ended.of_nodes y.0 (n - 1) = disks-at w.hosts.items ended.of_nodes ended.are (n - 1) y.0 y.1 in
          record {
            first = rw ended.all (get-append ended.of_nodes w.rest.items (2 * (n - 1)) (first_disk y.0.place) u.first);
            second = rw ended.all (get-append ended.of_nodes w.rest.items (2 * (n - 1) + 1) (second_disk y.0.place) u.second);
          }

      others : (m : ℕ) → 2 * d.cluster.nodes ≤ m → slice_get left m ≡ slice_get given m
      others m past =
          let k : ℕ = m - 2 * d.cluster.nodes in
          let here : m ≡ length ended.of_nodes + k = omega (arith, count, past) in
          let there : 2 * d.cluster.nodes + k ≡ m = omega (arith, past) in
          ap (λ xs. slice_get xs m) ended.all
          ∙ ap (slice_get (ended.of_nodes ++ w.rest.items)) here
          ∙ get-behind ended.of_nodes w.rest.items k
          ∙ ap (λ xs. slice_get xs k) f.rest
          ∙ get-drop (2 * d.cluster.nodes) given k
          ∙ ap (slice_get given) there

  -- behind all events, the document was replayed
  pub ended-replays : (d : DocumentData) (e : ℕ) (h : List Act) (given left : List D) (w : World D g) → IsOne d
      → Follows d e h given w → sum_by events_of d.items ≤ e → HasEnded w left → HasReplayed g d given left h
  ended-replays d e h given left w one f all ended =
      left_behind d d e h given left w one refl f (lawful-whole d e h f.hosts.rise all f.hosts.lawful) (λ n a b s. s)
      ended

  -- behind some events, the document that is cut there was replayed
  pub stopped-replays : (d : DocumentData) (e : ℕ) (h : List Act) (given left : List D) (w : World D g) → IsOne d
      → Follows d e h given w → HasEnded w left → HasReplayed g (cut e d) given left h
  stopped-replays d e h given left w one f ended =
      left_behind d (cut e d) e h given left w (cut-one d e one) refl f f.hosts.lawful (stands_cut d e (after [] h)) ended
