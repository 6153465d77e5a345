-- What is known of a world that follows a run.
use Rattle.std.proofs.Common.{◌≡◌, ℕ, ◌-◌, ◌≤◌, ◌<◌, Bool, true, List, [], ◌∷◌, length, drop, zero, suc, Option, Some, is_some, refl, sym, subst, ◌∙◌, arith, nat_le, replicate}
use Rattle.std.specs.Prelude.{slice_get}
use Rattle.std.specs.List.{list_all, flat_map}
use Rattle.std.proofs.lemmas.Bool.{and_parts, and_from}
use Rattle.std.proofs.lemmas.Bool.Decides.{nat_tests}
use Rattle.std.proofs.lemmas.List.Folds.{list_all-append}
use Rattle.score_base.specs.declared.ids.NodeId.{NodeId}
use Rattle.score_base.specs.declared.ids.TxId.{TxId}
use Rattle.score_disk.specs.declared.disk.Disk.{Ghosts}
use Rattle.grid_model.specs.declared.acts.Act.{Act}
use Rattle.grid_model.specs.declared.events.Out.{Out}
use Rattle.grid_model.specs.declared.events.Out.TheVariants as out
use Rattle.grid_model.specs.declared.items.Item.{Item}
use Rattle.grid_model.specs.declared.items.Item.TheVariants as item
use Rattle.grid_model.specs.Cuts.{events, IsCutRun}
use Rattle.grid_model.specs.Documents.{DocumentData, IsOne, is_item, script_numbers}
use Rattle.grid_model.specs.Histories.{after}
use Rattle.grid_model.specs.Nodes.{node}
use Rattle.grid_model.specs.Schedules.{events_in}
use Rattle.count_laws.specs.Few.{IsFew, sends}
use Rattle.grid_world.proofs.ForCode.{phases-cut, run-few}
use Rattle.node_core.specs.Links.{posts}
use Rattle.run_tally.specs.Phases.{TellsPhases}
use Rattle.grid_hosts.specs.declared.hosts.Host.{Host}
use Rattle.grid_hosts.specs.declared.hosts.Place.{Place}
use Rattle.grid_hosts.specs.declared.hosts.Place.TheVariants.{Up, Down}
use Rattle.grid_hosts.specs.Hosts.{is_standing, node_in}
use Rattle.host_laws.specs.Standing.{HostStands, Stands, generation_in}
use Rattle.host_laws.specs.Follows.{IsNext, HostFollows}
use Rattle.std.proofs.lemmas.List.{append-nil}
use Rattle.grid_world.specs.declared.worlds.World.{World}
use Rattle.grid_world.specs.Follows.{Follows, owns}
use Rattle.grid_world.specs.Worlds.{host_at, is_up_in, node_of}

-- ---- the next item

next_all : (p : Item → Bool) (e : ℕ) (is : List Item) (i : Item) (later : List Item) → list_all p is ≡ true
    → drop e is ≡ i ∷ later → p i ≡ true
next_all p e [] i later all at = absurd (nothing e at)
  where
    nothing : (e : ℕ) → drop e [] ≡ i ∷ later → ⊥
    nothing zero at = cc
    nothing (suc e) at = cc
next_all p zero (x ∷ is) i later all at =
    let same : x ≡ i = cc in subst (λ y. p y ≡ true) same (and_parts (p x) (list_all p is) all).0
next_all p (suc e) (x ∷ is) i later all at = next_all p e is i later (and_parts (p x) (list_all p is) all).1 at

nexts : (nodes : ℕ) (ts : List TxId) (c : ℕ) → list_all (is_item nodes ts) (replicate c (item.Next 1)) ≡ true
nexts nodes ts zero = refl
nexts nodes ts (suc c) = nexts nodes ts c

spelled : (nodes : ℕ) (ts : List TxId) (i : Item) → is_item nodes ts i ≡ true → list_all (is_item nodes ts) (events_in i) ≡ true
spelled nodes ts (item.Next c) is = nexts nodes ts c
spelled nodes ts i is = and_from (is_item nodes ts i) true is refl

all_spelled : (nodes : ℕ) (ts : List TxId) (is : List Item) → list_all (is_item nodes ts) is ≡ true
    → list_all (is_item nodes ts) (flat_map events_in is) ≡ true
all_spelled nodes ts [] all = refl
all_spelled nodes ts (i ∷ is) all =
    let parts = and_parts (is_item nodes ts i) (list_all (is_item nodes ts) is) all in
    rw (list_all-append (is_item nodes ts) (events_in i) (flat_map events_in is), spelled nodes ts i parts.0, all_spelled nodes ts is parts.1) refl

-- an item of a document names its nodes and transactions
pub next-item : (d : DocumentData) (e : ℕ) (i : Item) → IsOne d → IsNext d e i
    → is_item d.cluster.nodes (script_numbers d.scripts) i ≡ true
next-item d e i one (later, at) =
    next_all (is_item d.cluster.nodes (script_numbers d.scripts)) e (events d) i later
    (all_spelled d.cluster.nodes (script_numbers d.scripts) d.items one.document.items) at

-- a node that an item names is one of the cluster
pub at-most : (a b : ℕ) → nat_le a b ≡ true → a ≤ b
at-most a b is = grind (arith, nat_tests, is)

-- ---- messages

-- the messages among some outs are as many as are sent
pub posts-sends : (n : ℕ) (os : List Out) → length (posts n os) ≡ sends os
posts-sends n [] = refl
posts-sends n (out.Act a ∷ os) = posts-sends n os
posts-sends n (out.Send to said ∷ os) = let rest = posts-sends n os in omega (arith, rest)

module _ {D : Type 0} {g : Ghosts D} where
  -- ---- the run

  pub follows-run : (d : DocumentData) (e : ℕ) (h : List Act) (given : List D) (w : World D g)
      → Follows d e h given w → IsCutRun d e h
  follows-run d e h given w f = f.hosts.lawful.run

  pub follows-few : (d : DocumentData) (e : ℕ) (h : List Act) (given : List D) (w : World D g)
      → Follows d e h given w → e < 50000 → IsFew d (after [] h) e
  follows-few d e h given w f few = run-few d e h (omega (arith, few)) f.hosts.lawful.run

  pub follows-phases : (d : DocumentData) (e : ℕ) (h : List Act) (given : List D) (w : World D g)
      → Follows d e h given w → TellsPhases d w.tally (after [] h)
  follows-phases d e h given w f =
      subst (λ x. TellsPhases d x (after [] h)) (sym f.tally)
      (phases-cut d e h [] (subst (IsCutRun d e) (sym (append-nil h)) f.hosts.lawful.run))

  -- ---- its nodes

  stands_up : (d : DocumentData) (past : List Act) (n : NodeId) (p : Place D g) → Stands d past n p
      → is_standing p ≡ (node d past n).up
  stands_up d past n (Up x) s = sym s.disks.up
  stands_up d past n (Down first second fall) s = sym s.disks.down

  -- the host of a node stands behind the acts of the run
  pub follows-host : (d : DocumentData) (e : ℕ) (h : List Act) (given : List D) (w : World D g) (n : ℕ)
      → Follows d e h given w → 1 ≤ n → n ≤ d.cluster.nodes
      → (x : Host D g) × (host_at w n ≡ Some x) × HostStands d (after [] h) n x
  follows-host d e h given w n f least most =
      let x : (x : Host D g) × (slice_get w.hosts.items (n - 1) ≡ Some x) × HostFollows d e h (owns g given) (f.hosts.rise n) n x =
      f.hosts.host n least most in
      (x.0, x.1, x.2.stands)

  -- the generation of its live file is at most the number of events
  pub follows-generation : (d : DocumentData) (e : ℕ) (h : List Act) (given : List D) (w : World D g) (n : ℕ)
      (f : Follows d e h given w) (least : 1 ≤ n) (most : n ≤ d.cluster.nodes)
      → generation_in (follows-host d e h given w n f least most).0.place ≤ e
  unfolding follows-host
  follows-generation d e h given w n f least most = (f.hosts.host n least most).2.generation

  up_at : (o : Option (Host D g)) (x : Host D g) → o ≡ Some x → is_some (node_of o) ≡ is_standing x.place
  up_at o x is = subst (λ o'. is_some (node_of o') ≡ is_standing x.place) (sym is) (go x.place)
    where
      go : (p : Place D g) → is_some (node_in p) ≡ is_standing p
      go (Up x) = refl
      go (Down first second fall) = refl

  -- a node is up in the world where it is up behind the acts
  pub follows-up : (d : DocumentData) (e : ℕ) (h : List Act) (given : List D) (w : World D g) (n : ℕ)
      → Follows d e h given w → 1 ≤ n → n ≤ d.cluster.nodes → is_up_in w n ≡ (node d (after [] h) n).up
  follows-up d e h given w n f least most =
      let x : (x : Host D g) × (host_at w n ≡ Some x) × HostStands d (after [] h) n x =
      follows-host d e h given w n f least most in
      up_at (host_at w n) x.0 x.1 ∙ stands_up d (after [] h) n x.0.place x.2.place

  pub up-place : (w : World D g) (n : ℕ) (x : Host D g) → host_at w n ≡ Some x → is_up_in w n ≡ is_standing x.place
  up-place w n x at = up_at (host_at w n) x at

  -- the host of a node that is up is one
  pub up-standing : (w : World D g) (n : ℕ) (x : Host D g) → is_up_in w n ≡ true → host_at w n ≡ Some x
      → is_standing x.place ≡ true
  up-standing w n x up at = sym (up_at (host_at w n) x at) ∙ up
