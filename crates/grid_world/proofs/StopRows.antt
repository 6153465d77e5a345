-- A crash, and a fuse.
use Rattle.std.proofs.Common.{◌≡◌, ℕ, ◌≤◌, ◌&&◌, true, false, List, [], ◌∷◌, length, Some, None, refl, sym, ap, subst, ◌∙◌, arith, true≢false, nat_le}
use Rattle.std.proofs.lemmas.Bool.{and_parts}
use Rattle.std.proofs.lemmas.Bool.Decides.{nat_tests}
use Rattle.score_base.specs.declared.ids.NodeId.{NodeId}
use Rattle.score_disk.specs.declared.disk.Disk.{Ghosts}
use Rattle.grid_model.specs.declared.acts.Act.{Act}
use Rattle.grid_model.specs.declared.acts.Act.TheVariants as act
use Rattle.grid_model.specs.declared.items.Item.{Item}
use Rattle.grid_model.specs.declared.items.Item.TheVariants as item
use Rattle.grid_model.specs.declared.voids.Void.TheVariants as void
use Rattle.grid_model.specs.Documents.{DocumentData}
use Rattle.grid_model.specs.Histories.{after}
use Rattle.grid_model.specs.Nodes.{node}
use Rattle.grid_model.specs.Schedules.{row}
use Rattle.grid_model.specs.Voids.{voided}
use Rattle.grid_world.proofs.ForCode.{arm-turns, crash-turns, here, one-unmoved, sent-step, unsome}
use Rattle.grid_laws.specs.CalmRuns.{calm}
use Rattle.run_tally.specs.Tallies.{tally_after}
use Rattle.grid_hosts.specs.declared.hosts.Host.{Host}
use Rattle.grid_hosts.specs.declared.hosts.Place.{Place}
use Rattle.grid_hosts.specs.declared.hosts.Place.TheVariants.{Up, Down}
use Rattle.grid_hosts.specs.Hosts.{Crashes, HasArmed, HasCrashed, is_standing}
use Rattle.host_laws.specs.Standing.{HostStands, Stands}
use Rattle.host_laws.specs.Turns.{Turns}
use Rattle.grid_world.specs.declared.worlds.World.{World}
use Rattle.grid_world.specs.Follows.{CanPlay, Follows, Plays}
use Rattle.grid_world.specs.Worlds.{HasMoved, HasTold, host_at, is_up_in}
use Rattle.grid_world.proofs.Known.{at-most, follows-host, follows-up, next-item, up-standing}
use Rattle.grid_world.proofs.QuietRows.{keeps-both}
use Rattle.grid_world.proofs.RanRows.{IsTurned, turn-follows}
use Rattle.grid_world.proofs.AskRows.{down-plays}

fuse_is : (n nodes k how : ℕ) → (nat_le n nodes && nat_le 1 k && nat_le k 1000 && nat_le how 4294967295) ≡ true
    → (n ≤ nodes) × (1 ≤ k)
fuse_is n nodes k how is = (grind (arith, nat_tests, is), grind (arith, nat_tests, is))

module _ {D : Type 0} {g : Ghosts D} where
  -- an event in which the host of a node went so, and which has these acts
  pub moved-turned : (d : DocumentData) (n : NodeId) (turn : Host D g → Host D g → Type 0) (w mid w' : World D g)
      (acts : List Act) (m : HasMoved n turn w mid) → m.moved.now.id ≡ m.moved.before.id → HasTold d acts mid w'
      → IsTurned d w w' acts n m.moved.before m.moved.now
  moved-turned d n turn w mid w' acts m id t = record {
    at = m.moved.at;
    hosts = ap (λ hs. hs.items) t.hosts ∙ m.moved.hosts;
    id = id;
    tally = t.tally ∙ ap (λ x. tally_after d x acts) m.moved.tally;
    keeps = keeps-both w mid w' m.moved.keeps t.keeps;
  }

  -- the host of a node stands behind the acts
  pub moved-stands : (d : DocumentData) (e : ℕ) (h : List Act) (given : List D) (w : World D g) (n : NodeId)
      (x : Host D g) → Follows d e h given w → 1 ≤ n → n ≤ d.cluster.nodes → host_at w n ≡ Some x
      → HostStands d (after [] h) n x
  moved-stands d e h given w n x f least most at =
      let y : (y : Host D g) × (host_at w n ≡ Some y) × HostStands d (after [] h) n y =
      follows-host d e h given w n f least most in
      subst (HostStands d (after [] h) n) (unsome y.0 x (sym y.1 ∙ at)) y.2

  -- ---- a crash

  crash_most : (d : DocumentData) (n : NodeId) (how : ℕ) (w : World D g) → CanPlay d (item.Crash n how) w
      → n ≤ d.cluster.nodes
  crash_most d n how w can =
      at-most n d.cluster.nodes
      (and_parts (nat_le n d.cluster.nodes) (nat_le how 4294967295)
      (next-item d can.e (item.Crash n how) can.one can.next)).0

  pub has-host : (d : DocumentData) (i : Item) (n : NodeId) (w : World D g) → CanPlay d i w → n ≤ d.cluster.nodes
      → n ≤ length w.hosts.items
  has-host d i n w can most = rw can.follows.hosts.nodes most

  pub crash-host : (d : DocumentData) (n : NodeId) (how : ℕ) (w : World D g) → CanPlay d (item.Crash n how) w
      → n ≤ length w.hosts.items
  crash-host d n how w can = has-host d (item.Crash n how) n w can (crash_most d n how w can)

  pub uncrashed-plays : (d : DocumentData) (n : NodeId) (how : ℕ) (w w' : World D g) → 1 ≤ n
      → CanPlay d (item.Crash n how) w → is_up_in w n ≡ false → HasTold d (voided void.IsDown) w w'
      → Plays d (item.Crash n how) w w' (voided void.IsDown)
  uncrashed-plays d n how w w' least can down told =
      down-plays d (item.Crash n how) w w' n void.IsDown least (crash_most d n how w can) down
      (λ past down'. rw down' refl) told

  crash_turns : (d : DocumentData) (past : List Act) (n : NodeId) (p q : Place D g) → Stands d past n p
      → is_standing p ≡ true → Crashes p q → Turns d past (act.Down n None ∷ []) n p q
  crash_turns d past n (Up x) q s up c = crash-turns d past n x q s c
  crash_turns d past n (Down first second fall) q s up c = absurd (true≢false (sym up))

  pub crash-plays : (d : DocumentData) (n : NodeId) (how : ℕ) (w mid w' : World D g) → 1 ≤ n
      → CanPlay d (item.Crash n how) w → is_up_in w n ≡ true → HasMoved n HasCrashed w mid
      → HasTold d (act.Down n None ∷ []) mid w' → Plays d (item.Crash n how) w w' (act.Down n None ∷ [])
  crash-plays d n how w mid w' least can up m told = λ e h given one f next few.
      let most = crash_most d n how w can in
      let up' : (node d (after [] h) n).up ≡ true = sym (follows-up d e h given w n f least most) ∙ up in
      let is : act.Down n None ∷ [] ≡ row d (after [] h) (item.Crash n how) calm = sym (rw up' refl) in (
        calm,
        is,
        turn-follows d (item.Crash n how) w w' (act.Down n None ∷ []) calm e h given n m.moved.before m.moved.now
            (moved-turned d n HasCrashed w mid w' (act.Down n None ∷ []) m m.moved.turned.id told) f next is least most
            (crash_turns d (after [] h) n m.moved.before.place m.moved.now.place
            (moved-stands d e h given w n m.moved.before f least most m.moved.at).place
            (up-standing w n m.moved.before up m.moved.at) m.moved.turned.place)
            (λ k apart. one-unmoved d (after [] h) (act.Down n None) n k (here n) apart)
            (rw (told.network, m.network) (sent-step w.network (after [] h) (act.Down n None) f.sent refl)),
      )

  -- ---- a fuse

  fuse_parts : (d : DocumentData) (n : NodeId) (k how : ℕ) (w : World D g) → CanPlay d (item.Fuse n k how) w
      → (n ≤ d.cluster.nodes) × (1 ≤ k)
  fuse_parts d n k how w can =
      let one = fuse_is n d.cluster.nodes k how (next-item d can.e (item.Fuse n k how) can.one can.next) in
      one

  pub fuse-host : (d : DocumentData) (n : NodeId) (k how : ℕ) (w : World D g) → CanPlay d (item.Fuse n k how) w
      → n ≤ length w.hosts.items
  fuse-host d n k how w can = has-host d (item.Fuse n k how) n w can (fuse_parts d n k how w can).0

  pub fuse-least : (d : DocumentData) (n : NodeId) (k how : ℕ) (w : World D g) → CanPlay d (item.Fuse n k how) w → 1 ≤ k
  fuse-least d n k how w can = (fuse_parts d n k how w can).1

  pub fuse-plays : (d : DocumentData) (n : NodeId) (k how : ℕ) (w mid w' : World D g) → 1 ≤ n
      → CanPlay d (item.Fuse n k how) w → HasMoved n (λ x y. HasArmed k how x y) w mid
      → HasTold d (act.Armed n k how ∷ []) mid w' → Plays d (item.Fuse n k how) w w' (act.Armed n k how ∷ [])
  fuse-plays d n k how w mid w' least can m told = λ e h given one f next few.
      let parts = fuse_parts d n k how w can in (
        calm,
        refl,
        turn-follows d (item.Fuse n k how) w w' (act.Armed n k how ∷ []) calm e h given n m.moved.before m.moved.now
            (moved-turned d n (λ x y. HasArmed k how x y) w mid w' (act.Armed n k how ∷ []) m m.moved.turned.id told) f next
            refl least parts.0
            (arm-turns d (after [] h) n k how m.moved.before.place m.moved.now.place
            (moved-stands d e h given w n m.moved.before f least parts.0 m.moved.at).place parts.1 m.moved.turned.place)
            (λ j apart. one-unmoved d (after [] h) (act.Armed n k how) n j (here n) apart)
            (rw (told.network, m.network) (sent-step w.network (after [] h) (act.Armed n k how) f.sent refl)),
      )
