-- One event more: what each disk promises of its own acts keeps a run so far lawful.
use Rattle.std.proofs.Common.{◌≡◌, ◌≢◌, ◌≤◌, ◌⊎◌, inl, inr, ℕ, ◌+◌, ◌<◌, zero, suc, Bool, true, false, ◌&&◌, ◌==◌, not, IsTrue, List, [], ◌∷◌, ◌++◌, map, drop, refl, sym, ap, subst, ◌∙◌, arith, if◌then◌else◌}
use Rattle.std.specs.List.{list_all, range_with_len}
use Rattle.std.proofs.lemmas.Bool.{and_from, cases_lt}
use Rattle.std.proofs.lemmas.Bool.Decides.{nat_tests}
use Rattle.score_base.specs.declared.ids.NodeId.{NodeId}
use Rattle.grid_model.specs.declared.acts.Act.{Act}
use Rattle.grid_model.specs.declared.acts.Act.TheVariants as act
use Rattle.grid_model.specs.declared.acts.Flag.TheVariants as flag
use Rattle.grid_model.specs.declared.items.Item.{Item}
use Rattle.grid_model.specs.Documents.{DocumentData}
use Rattle.grid_model.specs.Histories.{after}
use Rattle.grid_model.specs.Schedules.{Choice, row, start_row, start_act}
use Rattle.grid_model.specs.Runs.{is_let, are_let, is_stop, is_by_fuse, as_number, stops, faults}
use Rattle.grid_model.specs.Cuts.{events, IsCutRun}
use Rattle.grid_laws.proofs.CutRuns.{cut-start, cut-more}
use Rattle.disk_laws.specs.DiskActs.{is_of_disk, is_quiet, IsPromised, IsDiskEvent}
use Rattle.disk_laws.specs.SoFar.{LawfulSoFar, risen, HasOpened}
use Rattle.disk_laws.proofs.Unmoved.{Unmoved, unmoved-same, unmoved-both, unmoved-all, unmoved-other, another}

-- what is lawful at one node: its fuse allows its acts, and its stops are explained
pub record IsLawfulAt (d : DocumentData) (past : List Act) (n : NodeId) (rise : ℕ) : Type 0 where
  pub lets : are_let d past n ≡ true
  pub most : faults d past n ≤ rise
  pub some : rise ≢ 0 → stops past n ≢ 0

pub lawful-unmoved : (d : DocumentData) (p q : List Act) (n : NodeId) (rise : ℕ) → IsLawfulAt d p n rise →
    Unmoved d p q n → IsLawfulAt d q n rise
lawful-unmoved d p q n rise l u = record {
  lets = u.let_is ∙ l.lets;
  most = rw u.faults_are l.most;
  some =
      rw u.stops_are l.some;
}

-- ---- one act of its own

counted : (stop by_fuse : Bool) (more old rise : ℕ) → (IsTrue stop → IsTrue by_fuse ⊎ (1 ≤ more)) → old ≤ rise →
    as_number (stop && not by_fuse) + old ≤ rise + more
counted false b more old rise paid less = omega arith
counted true true more old rise paid less = omega arith
counted true false more old rise paid less = elim (paid refl) [ inl by_fuse ↦ grind arith | inr pays ↦ omega arith ]

shown : (stop : Bool) (more old rise : ℕ) → (more ≢ 0 → IsTrue stop) → (rise ≢ 0 → old ≢ 0) → rise + more ≢ 0 →
    as_number stop + old ≢ 0
shown true more old rise stopped some rose none = grind arith
shown false zero old rise stopped some rose none = some (λ z. rose (omega arith)) (omega arith)
shown false (suc more) old rise stopped some rose none = let bad : IsTrue false = stopped (λ z. grind arith) in
    grind arith

pub lawful-turn : (d : DocumentData) (p : List Act) (a : Act) (n : NodeId) (rise more : ℕ) → IsLawfulAt d p n rise →
    IsPromised d p n a more → IsLawfulAt d (a ∷ p) n (rise + more)
lawful-turn d p a n rise more l is = record {
  lets = and_from (is_let d p a n) (are_let d p n) is.goes_on l.lets;
  most = counted (is_stop a n) (is_by_fuse d p a n) more (faults d p n) rise is.paid l.most;
  some = shown (is_stop a n) more (stops p n) rise is.stopped l.some;
}

-- ---- an event

pub after-append : (past xs ys : List Act) → after past (xs ++ ys) ≡ after (after past xs) ys
after-append past [] ys = refl
after-append past (a ∷ xs) ys = after-append (a ∷ past) xs ys

pub equal : (n m : NodeId) → (n == m) ≡ true → n ≡ m
equal n m e = grind (arith, nat_tests)

pub differs : (n m : NodeId) → (n == m) ≡ false → n ≢ m
differs n m e = grind (arith, nat_tests)

own-event : (d : DocumentData) (past acts : List Act) (n : NodeId) (rise more : ℕ) → IsDiskEvent d past acts n more →
    IsLawfulAt d past n rise → IsLawfulAt d (after past acts) n (rise + more)
own-event d past acts n rise more is l =
    let front : List Act = after past is.front in
    let u : Unmoved d past front n = unmoved-all d past is.front n is.quiet_front in
    let turn : IsLawfulAt d (is.turn ∷ front) n (rise + more) =
    lawful-turn d front is.turn n rise more (lawful-unmoved d past front n rise l u) is.promised in
    rw (is.are, after-append past is.front (is.turn ∷ is.behind))
    (lawful-unmoved d (is.turn ∷ front) (after (is.turn ∷ front) is.behind) n (rise + more) turn
    (unmoved-all d (is.turn ∷ front) is.behind n is.quiet_behind))

-- the other nodes
pub other-unmoved : (d : DocumentData) (past acts : List Act) (n m : NodeId) (more : ℕ) →
    IsDiskEvent d past acts n more → n ≢ m → Unmoved d past (after past acts) m
other-unmoved d past acts n m more is other =
    let front : List Act = after past is.front in
    let turn : Unmoved d front (is.turn ∷ front) m = unmoved-other d front is.turn n m is.own
    (another d is.turn n m is.own other) in
    rw (is.are, after-append past is.front (is.turn ∷ is.behind))
    (unmoved-both d past front (after (is.turn ∷ front) is.behind) m
    (unmoved-all d past is.front m is.quiet_front) (unmoved-both d front (is.turn ∷ front)
    (after (is.turn ∷ front) is.behind) m turn (unmoved-all d (is.turn ∷ front) is.behind m is.quiet_behind)))

event-lawful : (d : DocumentData) (past acts : List Act) (n m : NodeId) (rise : NodeId → ℕ) (more : ℕ) →
    IsDiskEvent d past acts n more → IsLawfulAt d past m (rise m) →
    IsLawfulAt d (after past acts) m (risen rise n more m)
event-lawful d past acts n m rise more is l = go (n == m) refl
  where
    go : (b : Bool) → (n == m) ≡ b → IsLawfulAt d (after past acts) m (if b then rise m + more else rise m)
    go true e = own-event d past acts m (rise m) more (subst (λ k. IsDiskEvent d past acts k more) (equal n m e) is) l
    go false e = lawful-unmoved d past (after past acts) m (rise m) l
        (other-unmoved d past acts n m more is (differs n m e))

-- ---- a run so far

-- what a run so far says of one node
pub at-node : (d : DocumentData) (e : ℕ) (h : List Act) (rise : NodeId → ℕ) (n : NodeId) → LawfulSoFar d e h rise →
    IsLawfulAt d (after [] h) n (rise n)
at-node d e h rise n l = record { lets = l.fuses n; most = (l.stops n).most; some = (l.stops n).some }

-- a run of the first events that is lawful at each node
pub all-nodes : (d : DocumentData) (e : ℕ) (h : List Act) (rise : NodeId → ℕ) → IsCutRun d e h →
    ((n : NodeId) → IsLawfulAt d (after [] h) n (rise n)) → LawfulSoFar d e h rise
all-nodes d e h rise run each = record {
  run = run;
  fuses = λ n. (each n).lets;
  stops =
      λ n. record { most = (each n).most; some = (each n).some };
}

-- an event in which one disk has a part
pub so_far-disk : (d : DocumentData) (e : ℕ) (h : List Act) (rise : NodeId → ℕ) (x : Item) (later : List Item)
    (c : Choice) (n : NodeId) (more : ℕ) → LawfulSoFar d e h rise → drop e (events d) ≡ x ∷ later →
    IsDiskEvent d (after [] h) (row d (after [] h) x c) n more →
    LawfulSoFar d (e + 1) (h ++ row d (after [] h) x c) (risen rise n more)
so_far-disk d e h rise x later c n more l next is =
    let acts : List Act = row d (after [] h) x c in
    all-nodes d (e + 1) (h ++ acts) (risen rise n more) (cut-more d e h x later c l.run next)
    (λ m. rw (after-append [] h acts) (event-lawful d (after [] h) acts n m rise more is (at-node d e h rise m l)))

-- an event in which no disk has a part
pub so_far-quiet : (d : DocumentData) (e : ℕ) (h : List Act) (rise : NodeId → ℕ) (x : Item) (later : List Item)
    (c : Choice) → LawfulSoFar d e h rise → drop e (events d) ≡ x ∷ later →
    IsTrue (list_all is_quiet (row d (after [] h) x c)) → LawfulSoFar d (e + 1) (h ++ row d (after [] h) x c) rise
so_far-quiet d e h rise x later c l next quiet =
    let acts : List Act = row d (after [] h) x c in
    all-nodes d (e + 1) (h ++ acts) rise (cut-more d e h x later c l.run next)
    (λ m. rw (after-append [] h acts) (lawful-unmoved d (after [] h) (after (after [] h) acts) m (rise m)
    (at-node d e h rise m l) (unmoved-all d (after [] h) acts m quiet)))

-- ---- the start

start-promised : (d : DocumentData) (p : List Act) (opens : NodeId → Bool) (n more : ℕ) →
    (opens n ≡ true → more ≡ 0) → (opens n ≡ false → 1 ≤ more) → IsPromised d p n (start_act opens n) more
start-promised d p ups n more calm pays = go (ups n) calm pays
  where
    none : more ≡ 0 → more ≢ 0 → IsTrue false
    none e risen = absurd (risen e)

    go : (b : Bool) → (b ≡ true → more ≡ 0) → (b ≡ false → 1 ≤ more) →
        IsPromised d p n (if b then act.Up n flag.Untouched else act.StillDown n) more
    go true calm pays = record { goes_on = refl; paid = λ stop. grind arith; stopped = none (calm refl) }
    go false calm pays = record { goes_on = refl; paid = λ stop. inr (pays refl); stopped = λ risen. same n }
      where
        same : (k : ℕ) → (k == k) ≡ true
        same k = grind (arith, nat_tests)

start-acts : (d : DocumentData) (opens : NodeId → Bool) (n : NodeId) → is_of_disk d n (start_act opens n) ≡ true
start-acts d ups n = go (ups n)
  where
    same : (k : ℕ) → (k == k) ≡ true
    same k = grind (arith, nat_tests)

    go : (up : Bool) → is_of_disk d n (if up then act.Up n flag.Untouched else act.StillDown n) ≡ true
    go true = same n
    go false = same n

pub start-unmoved : (d : DocumentData) (p : List Act) (opens : NodeId → Bool) (a n : NodeId) → a ≢ n →
    Unmoved d p (start_act opens a ∷ p) n
start-unmoved d p ups a n other = unmoved-other d p (start_act ups a) a n (start-acts d ups a)
    (another d (start_act ups a) a n (start-acts d ups a) other)

-- openings of other nodes
pub start-other : (d : DocumentData) (p : List Act) (opens : NodeId → Bool) (a len n : ℕ) → (n < a) ⊎ (a + len ≤ n) →
    Unmoved d p (after p (map (start_act opens) (range_with_len a len))) n
start-other d p ups a zero n apart = unmoved-same d p n
start-other d p ups a (suc len) n apart =
    let other : a ≢ n = elim apart [
      | inl low ↦ λ e. let never : ⊥ = omega (arith, low, e) in never
      | inr high ↦
          λ e. let never : ⊥ = omega (arith, high, e) in never
    ] in
    let next : (n < a + 1) ⊎ (a + 1 + len ≤ n) = elim apart [
      | inl low ↦ inl (omega (arith, low))
      | inr high ↦
          inr (omega (arith, high))
    ] in
    unmoved-both d p (start_act ups a ∷ p) (after (start_act ups a ∷ p)
    (map (start_act ups) (range_with_len (a + 1) len))) n (start-unmoved d p ups a n other)
    (start-other d (start_act ups a ∷ p) ups (a + 1) len n next)

-- its own among them
start-own : (d : DocumentData) (p : List Act) (opens : NodeId → Bool) (a len n more : ℕ) → a ≤ n → n < a + len →
    (opens n ≡ true → more ≡ 0) → (opens n ≡ false → 1 ≤ more) → IsLawfulAt d p n 0 →
    IsLawfulAt d (after p (map (start_act opens) (range_with_len a len))) n more
start-own d p ups a zero n more low high calm pays l = let never : ⊥ = omega (arith, low, high) in absurd never
start-own d p ups a (suc len) n more low high calm pays l =
    go (a == n) refl (λ other. start-own d (start_act ups a ∷ p) ups (a + 1) len n more (omega (arith, other, low))
    (omega (arith, high)) calm pays (lawful-unmoved d p (start_act ups a ∷ p) n 0 l (start-unmoved d p ups a n other)))
  where
    go : (b : Bool) → (a == n) ≡ b → (a ≢ n → IsLawfulAt d (after (start_act ups a ∷ p)
        (map (start_act ups) (range_with_len (a + 1) len))) n more) →
        IsLawfulAt d (after (start_act ups a ∷ p) (map (start_act ups) (range_with_len (a + 1) len))) n more
    go true e rest =
        let first : a ≡ n = equal a n e in
        let turn : IsLawfulAt d (start_act ups n ∷ p) n (0 + more) =
        lawful-turn d p (start_act ups n) n 0 more l (start-promised d p ups n more calm pays) in
        let sum : 0 + more ≡ more = omega arith in
        let here : IsLawfulAt d (start_act ups a ∷ p) n more = subst (λ k. IsLawfulAt d (start_act ups k ∷ p) n more)
        (sym first) (subst (IsLawfulAt d (start_act ups n ∷ p) n) sum turn) in
        lawful-unmoved d (start_act ups a ∷ p) (after (start_act ups a ∷ p)
        (map (start_act ups) (range_with_len (a + 1) len))) n more here
        (start-other d (start_act ups a ∷ p) ups (a + 1) len n (inl (omega (arith, first))))
    go false e rest = rest (differs a n e)

-- behind the start, by what each opening promises
pub so_far-start : (d : DocumentData) (opens : NodeId → Bool) (rise : NodeId → ℕ) →
    HasOpened d.cluster.nodes opens rise → LawfulSoFar d 0 (start_row d.cluster.nodes opens) rise
so_far-start d ups rise o = all-nodes d 0 (start_row d.cluster.nodes ups) rise (cut-start d ups) each
  where
    blank : (n more : ℕ) → more ≡ 0 → IsLawfulAt d [] n more
    blank n more none = record { lets = refl; most = omega arith; some = λ risen. absurd (risen none) }

    each : (n : NodeId) → IsLawfulAt d (after [] (start_row d.cluster.nodes ups)) n (rise n)
    each n = elim (cases_lt n 1) [
      | inl low ↦ let zero_is : n ≡ 0 = omega (arith, low) in lawful-unmoved d []
          (after [] (start_row d.cluster.nodes ups)) n (rise n) (blank n (rise n) (ap rise zero_is ∙ o.below))
          (start-other d [] ups 1 d.cluster.nodes n (inl low))
      | inr from ↦ elim (cases_lt n (1 + d.cluster.nodes)) [
        | inl here ↦ start-own d [] ups 1 d.cluster.nodes n (rise n) from here (o.up n)
            (λ down. o.failed n down from (omega (arith, here))) (blank n 0 refl)
        | inr high ↦ lawful-unmoved d [] (after [] (start_row d.cluster.nodes ups)) n (rise n)
            (blank n (rise n) (o.above n (omega (arith, high)))) (start-other d [] ups 1 d.cluster.nodes n (inr high))
      ]
    ]
