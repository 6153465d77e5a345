-- From what a step, an opening and a crash leave of the two disks of a node to what these show.
use Rattle.std.proofs.Common.{◌≡◌, ◌⊎◌, inl, inr, ℕ, Bool, true, false, Option, IsTrue, refl, sym, ap, subst}
use Rattle.score_base.specs.declared.ids.NodeId.{NodeId}
use Rattle.score_base.specs.declared.records.Record.{Record}
use Rattle.placement.specs.Clusters.{ClusterData}
use Rattle.score_disk.specs.declared.disk.Disk.{Ghosts}
use Rattle.node_journal.specs.declared.pair.Pair.{Pair}
use Rattle.node_journal.specs.Pairs.{in_order}
use Rattle.node_journal.specs.PairDisks.{TellsBoth, IsPairAtRest, list_of, first_of, last_of}
use Rattle.node_journal.specs.Spending.{Opened, Spent, Untouched}
use Rattle.node_core.specs.declared.nodes.Node.{Node}
use Rattle.node_core.specs.Steps.{IsUnwritten, IsKept, IsAppended, IsCompacted, IsCut, StoppedSmall}
use Rattle.node_core.specs.Openings.{TellBoth, IsUp, HasFailed}
use Rattle.disk_laws.specs.Shown.{Shown, shown, seats, first_seat, second_seat}
use Rattle.disk_laws.specs.Calls.{HasAppended, HasCompacted, HasCrashed, WasCut, WasCutSmall, CameUp, FailedToOpen, armed, both_armed}
use Rattle.disk_laws.proofs.PairSeats.{same-seats, has-appended, has-compacted, has-crashed, was-cut, was-cut-small, opened-pair, failed-to-open}
use Rattle.grid_hosts.specs.Hosts.{IsCrashed, IsArmed, HasFuses}

of_first : {D : Type 0} (g : Ghosts D) → (b : Bool) (f : D → Shown) (x y : D) → in_order b (λ first _. first) (f x) (f y) ≡ f
    (in_order b (λ first _. first) x y)
of_first g true f x y = refl
of_first g false f x y = refl

of_last : {D : Type 0} (g : Ghosts D) → (b : Bool) (f : D → Shown) (x y : D) → in_order b (λ _ last. last) (f x) (f y) ≡ f
    (in_order b (λ _ last. last) x y)
of_last g true f x y = refl
of_last g false f x y = refl

tells_first : {D : Type 0} (g : Ghosts D) → (b : Bool) (x y : D) → IsTrue (g.tells x) → IsTrue (g.tells y) →
    IsTrue (g.tells (in_order b (λ first _. first) x y))
tells_first g true x y tx ty = ty
tells_first g false x y tx ty = tx

tells_last : {D : Type 0} (g : Ghosts D) → (b : Bool) (x y : D) → IsTrue (g.tells x) → IsTrue (g.tells y) →
    IsTrue (g.tells (in_order b (λ _ last. last) x y))
tells_last g true x y tx ty = tx
tells_last g false x y tx ty = ty

seats_tell : {D : Type 0} (g : Ghosts D) → (b : Bool) (x y : D) → IsTrue (g.tells (in_order b (λ first _. first) x y)) →
    IsTrue (g.tells (in_order b (λ _ last. last) x y)) → IsTrue (g.tells x) × IsTrue (g.tells y)
seats_tell g true x y one two = (two, one)
seats_tell g false x y one two = (one, two)

same_tells : {D : Type 0} (g : Ghosts D) → (a b : D) → g.tells b ≡ g.tells a → IsTrue (g.tells a) → IsTrue (g.tells b)
same_tells g a b same = subst IsTrue (sym same)

halves : {D : Type 0} (g : Ghosts D) → (b : Bool) (live other first last : D) → g.tells (in_order b (λ live _. live) first last) ≡ g.tells live →
    g.tells (in_order b (λ _ other. other) first last) ≡ g.tells other → IsTrue (g.tells live) →
    IsTrue (g.tells other) → TellBoth g first last
halves g true live other first last one two tl to =
    (same_tells g other first two to, same_tells g live last one tl)
halves g false live other first last one two tl to =
    (same_tells g live first one tl, same_tells g other last two to)

module _ {D : Type 0} {g : Ghosts D} where
  -- ---- which disk is which

  -- what the first and the second disk of a pair show
  pub first-is : (p : Pair D g) → first_seat (seats p) ≡ shown g (first_of p)
  first-is p = of_first g p.second (shown g) p.live.disk p.other

  pub last-is : (p : Pair D g) → second_seat (seats p) ≡ shown g (last_of p)
  last-is p = of_last g p.second (shown g) p.live.disk p.other

  -- the first and the second disk of a pair that tells
  pub both-tell : (p : Pair D g) → TellsBoth p → TellBoth g (first_of p) (last_of p)
  both-tell p t = (
    tells_first g p.second p.live.disk p.other t.0 t.1,
    tells_last g p.second p.live.disk p.other t.0 t.1,
  )

  -- a pair whose first and second disk tell
  pub pair-tells : (p : Pair D g) → TellBoth g (first_of p) (last_of p) → TellsBoth p
  pair-tells p t = seats_tell g p.second p.live.disk p.other t.0 t.1

  -- ---- nothing is written

  is-same : (a b : D) → b ≡ a → Untouched g a b
  is-same a b same = subst (Untouched g a) (sym same)
      (record { tells = refl; file = refl; left = refl; own = refl; faults = refl })

  pub unwritten-seats : (p q : Pair D g) → IsUnwritten p q → seats q ≡ seats p
  unwritten-seats p q u = same-seats g p q u.second u.live (is-same p.other q.other u.other)

  pub unwritten-tells : (p q : Pair D g) → IsUnwritten p q → TellsBoth p → TellsBoth q
  unwritten-tells p q u t =
      (same_tells g p.live.disk q.live.disk u.live.tells t.0, same_tells g p.other q.other (ap g.tells u.other) t.1)

  pub kept-seats : (p q : Pair D g) → IsKept p q → seats q ≡ seats p
  kept-seats p q k = same-seats g p q k.second k.live k.other

  pub kept-tells : (p q : Pair D g) → IsKept p q → TellsBoth p → TellsBoth q
  kept-tells p q k t =
      (same_tells g p.live.disk q.live.disk k.live.tells t.0, same_tells g p.other q.other k.other.tells t.1)

  -- ---- a record

  pub appended-tells : (x : Record) (p q : Pair D g) → IsAppended x p q → TellsBoth p → TellsBoth q
  appended-tells x p q a t =
      (same_tells g p.live.disk q.live.disk a.live.tells t.0, same_tells g p.other q.other (ap g.tells a.other) t.1)

  pub appended-seats : (x : Record) (p q : Pair D g) → IsAppended x p q → TellsBoth p →
      HasAppended (list_of p) x p.number (seats p) (seats q)
  appended-seats x p q a t =
      has-appended g x p q (appended-tells x p q a t) (subst (IsPairAtRest q) a.list (a.rest t)) a.live a.other
      a.second a.number

  -- ---- a compaction

  spent_tells : (a b : D) → Spent g 6 a b ⊎ Spent g 8 a b → g.tells b ≡ g.tells a
  spent_tells a b (inl six) = six.tells
  spent_tells a b (inr eight) = eight.tells

  pub compacted-tells : (p q : Pair D g) → IsCompacted p q → TellsBoth p → TellsBoth q
  compacted-tells p q c t = (
    same_tells g p.other q.live.disk (spent_tells p.other q.live.disk c.live) t.1,
    same_tells g p.live.disk q.other (ap g.tells c.other) t.0,
  )

  pub compacted-seats : (p q : Pair D g) → IsCompacted p q → TellsBoth p →
      HasCompacted (list_of p) p.number (seats p) (seats q)
  compacted-seats p q c t =
      has-compacted g p q (compacted-tells p q c t) (subst (IsPairAtRest q) c.list (c.rest t)) c.live c.other c.second
      c.number

  -- ---- a stop

  pub cut-tells : (p : Pair D g) (x : Record) (a b : D) → IsCut p x a b → TellsBoth p → TellBoth g a b
  cut-tells p x a b c t =
      halves g p.second p.live.disk p.other a b c.halted.tells (ap g.tells c.other) t.0 t.1

  pub cut-seats : (p : Pair D g) (x : Record) (a b : D) → IsCut p x a b → TellsBoth p →
      WasCut (list_of p) x p.number (seats p) (shown g a) (shown g b)
  cut-seats p x a b c t =
      was-cut g x p a b t (c.images t) (c.early t) c.other c.halted (c.version t)

  pub small-tells : (x : Node D g) (a b : D) → StoppedSmall x a b → TellsBoth x.pair → TellBoth g a b
  small-tells x a b s t =
      halves g x.pair.second x.pair.live.disk x.pair.other a b (ap g.tells s.live) s.halted.tells t.0 t.1

  pub small-seats : (x : Node D g) (a b : D) → StoppedSmall x a b → TellsBoth x.pair →
      WasCutSmall (list_of x.pair) x.pair.number (seats x.pair) (shown g a) (shown g b)
  small-seats x a b s t = was-cut-small g x.pair a b (s.stopped_log t) (s.early_log t) s.live s.halted

  -- ---- an opening

  opened_tells : (a b : D) → Opened g a b → g.tells b ≡ g.tells a
  opened_tells a b (inl same) = same.tells
  opened_tells a b (inr spent) = spent.tells

  pub up-tells : (n : NodeId) (c : ClusterData) (a b : D) (x : Node D g) → IsUp g n c a b x → TellBoth g a b →
      TellsBoth x.pair
  up-tells n c a b x u t = pair-tells x.pair (
    same_tells g a (first_of x.pair) (opened_tells a (first_of x.pair) (u.first_only t).0) t.0,
    same_tells g b (last_of x.pair) (u.first_only t).1.tells t.1,
  )

  pub up-seats : (n : NodeId) (c : ClusterData) (a b : D) (x : Node D g) → IsUp g n c a b x → TellBoth g a b →
      CameUp (list_of x.pair) x.pair.number (shown g a) (shown g b) (seats x.pair)
  up-seats n c a b x u t =
      opened-pair g a b x.pair (up-tells n c a b x u t) (u.log t) (u.rest t) (u.first_only t) (u.kept t) (u.anew t)

  pub failed-tells : (a b a' b' : D) → HasFailed g a b a' b' → TellBoth g a b → TellBoth g a' b'
  failed-tells a b a' b' f t = elim f.halted [
    | inl (halted, kept) ↦ (same_tells g a a' halted.tells t.0, same_tells g b b' kept.tells t.1)
    | inr (kept, halted) ↦ (same_tells g a a' kept.tells t.0, same_tells g b b' halted.tells t.1)
  ]

  pub failed-seats : (a b a' b' : D) → HasFailed g a b a' b' → TellBoth g a b →
      FailedToOpen (shown g a) (shown g b) (shown g a') (shown g b')
  failed-seats a b a' b' f t = failed-to-open g a b a' b' (f.failed t)

module _ {D : Type 0} {g : Ghosts D} where
  -- ---- a crash

  pub crashed-tells : (a b : D) → IsCrashed g a b → IsTrue (g.tells a) → IsTrue (g.tells b)
  crashed-tells a b c t = subst IsTrue (sym c.tells) t

  pub crashed-seat : (a b : D) → IsCrashed g a b → IsTrue (g.tells a) → HasCrashed (shown g a) (shown g b)
  crashed-seat a b c t = has-crashed g a b (c.crash t) c.left c.own

  -- ---- an arming

  pub armed-tells : (left : Option ℕ) (a b : D) → IsArmed g left a b → IsTrue (g.tells a) → IsTrue (g.tells b)
  armed-tells left a b i t = subst IsTrue (sym i.tells) t

  pub armed-seat : (left : Option ℕ) (a b : D) → IsArmed g left a b → shown g b ≡ armed left (shown g a)
  armed-seat left a b i = rw (i.file, i.left_is, i.own) refl

  pub fused-tells : (left : Option ℕ) (x y : Node D g) → HasFuses left x y → TellsBoth x.pair →
      TellsBoth y.pair
  fused-tells left x y f t = (
    armed-tells left x.pair.live.disk y.pair.live.disk f.live t.0,
    armed-tells left x.pair.other y.pair.other f.other t.1,
  )

  pub fused-seats : (left : Option ℕ) (x y : Node D g) → HasFuses left x y →
      seats y.pair ≡ both_armed left (seats x.pair)
  fused-seats left x y f = rw (
    f.second,
    armed-seat left x.pair.live.disk y.pair.live.disk f.live,
    armed-seat left x.pair.other y.pair.other
        f.other,
  ) refl
