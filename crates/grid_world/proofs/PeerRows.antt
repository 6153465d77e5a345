-- A node that asks another part.
use Rattle.std.proofs.Common.{◌≡◌, ℕ, ◌≤◌, ◌&&◌, ◌==◌, Bool, true, false, List, [], Option, Some, None, is_some, refl, sym, ap, subst, ◌∙◌, true≢false, nat_le}
use Rattle.std.specs.List.{list_any}
use Rattle.std.proofs.lemmas.Bool.{and_parts}
use Rattle.score_base.specs.declared.ids.NodeId.{NodeId}
use Rattle.score_base.specs.declared.ids.TxId.{TxId}
use Rattle.score_base.specs.declared.records.Record.{Record}
use Rattle.score_disk.specs.declared.disk.Disk.{Ghosts}
use Rattle.journal_words.specs.Journals.{pending}
use Rattle.journal_words.specs.Small.{AreAlike}
use Rattle.grid_world.proofs.ForCode.{peer-none, peer-row, pending-reads, same_word}
use Rattle.grid_model.specs.declared.acts.Act.{Act}
use Rattle.grid_model.specs.declared.events.Event.TheVariants as event
use Rattle.grid_model.specs.declared.items.Item.TheVariants as item
use Rattle.grid_model.specs.declared.voids.Void.TheVariants as void
use Rattle.grid_model.specs.Documents.{DocumentData, script_numbers}
use Rattle.grid_model.specs.Histories.{after}
use Rattle.grid_model.specs.Nodes.{journal, node}
use Rattle.grid_model.specs.Schedules.{row}
use Rattle.grid_model.specs.Voids.{voided}
use Rattle.grid_laws.specs.CalmRuns.{calm}
use Rattle.node_core.specs.declared.nodes.Node.{Node}
use Rattle.grid_hosts.specs.declared.hosts.Host.{Host}
use Rattle.grid_hosts.specs.declared.hosts.Place.{Place}
use Rattle.grid_hosts.specs.declared.hosts.Place.TheVariants.{Up, Down}
use Rattle.grid_hosts.specs.Hosts.{node_in}
use Rattle.host_laws.specs.Standing.{HostStands, Stands}
use Rattle.grid_world.specs.declared.worlds.World.{World}
use Rattle.grid_world.specs.Follows.{CanPlay, Follows, Plays}
use Rattle.grid_world.specs.Worlds.{CanRun, HasTold, OrVoid, host_at, is_pending_at, is_pending_in, is_up_in, node_of}
use Rattle.grid_world.proofs.Known.{at-most, follows-host, next-item}
use Rattle.grid_world.proofs.QuietRows.{void-plays}
use Rattle.grid_world.proofs.AskRows.{event-runs, or-plays}

alike_pending : (t : TxId) (r s : List Record) → AreAlike r s → pending t r ≡ pending t s
alike_pending t r s a = same_word (pending t) (pending-reads t) r s a.ballots

module _ {D : Type 0} {g : Ghosts D} where
  peer_most : (d : DocumentData) (n : NodeId) (t : TxId) (y : NodeId) (w : World D g) → CanPlay d (item.AskPeer n t y) w
      → n ≤ d.cluster.nodes
  peer_most d n t y w can =
      at-most n d.cluster.nodes
      (and_parts (nat_le n d.cluster.nodes) (nat_le y d.cluster.nodes && list_any (λ u. u == t) (script_numbers d.scripts))
      (next-item d can.e (item.AskPeer n t y) can.one can.next)).0

  -- what is pending at a node that is up is pending behind the acts
  place_pending : (d : DocumentData) (past : List Act) (n : NodeId) (t : TxId) (p : Place D g) → Stands d past n p
      → is_pending_at t (node_in p) ≡ ((node d past n).up && is_some (pending t (journal d past n)))
  place_pending d past n t (Up x) s =
      rw s.disks.up (ap is_some (alike_pending t x.store.journal (journal d past n) s.alike))
  place_pending d past n t (Down first second fall) s = rw s.disks.down refl

  world_pending : (d : DocumentData) (e : ℕ) (h : List Act) (given : List D) (w : World D g) (n : NodeId) (t : TxId)
      → Follows d e h given w → 1 ≤ n → n ≤ d.cluster.nodes
      → is_pending_in w n t ≡ ((node d (after [] h) n).up && is_some (pending t (journal d (after [] h) n)))
  world_pending d e h given w n t f least most =
      let x : (x : Host D g) × (host_at w n ≡ Some x) × HostStands d (after [] h) n x =
      follows-host d e h given w n f least most in
      ap (λ o. is_pending_at t (node_of o)) x.1 ∙ place_pending d (after [] h) n t x.0.place x.2.place

  -- a node at which something is pending is up
  pending-up : (w : World D g) (n : NodeId) (t : TxId) → is_pending_in w n t ≡ true → is_up_in w n ≡ true
  pending-up w n t is = go (node_of (host_at w n)) is
    where
      go : (o : Option (Node D g)) → is_pending_at t o ≡ true → is_some o ≡ true
      go None e = absurd (true≢false (sym e))
      go (Some x) e = refl

  -- nothing is pending there
  pub unasked-plays : (d : DocumentData) (n : NodeId) (t : TxId) (y : NodeId) (w w' : World D g) → 1 ≤ n
      → CanPlay d (item.AskPeer n t y) w → is_pending_in w n t ≡ false → HasTold d (voided void.NotPending) w w'
      → Plays d (item.AskPeer n t y) w w' (voided void.NotPending)
  unasked-plays d n t y w w' least can none told = void-plays d (item.AskPeer n t y) w w' void.NotPending told
      (λ e h given one f next.
      go e h (sym (world_pending d e h given w n t f least (peer_most d n t y w can)) ∙ none)
      (node d (after [] h) n).up refl)
    where
      go : (e : ℕ) (h : List Act)
          → ((node d (after [] h) n).up && is_some (pending t (journal d (after [] h) n))) ≡ false
          → (b : Bool) → (node d (after [] h) n).up ≡ b
          → row d (after [] h) (item.AskPeer n t y) calm ≡ voided void.NotPending
      go e h none true up =
          (peer-none d (after [] h) n t y calm (subst (λ b. (b && is_some (pending t (journal d (after [] h) n))) ≡ false) up none)).0
      go e h none false down = rw down refl

  -- it is asked
  pub peer-plays : (d : DocumentData) (n : NodeId) (t : TxId) (y : NodeId) (w w' : World D g) (acts : List Act) → 1 ≤ n
      → CanPlay d (item.AskPeer n t y) w → is_pending_in w n t ≡ true
      → OrVoid d void.NotPart n (event.AskPeer t y) w w' acts → Plays d (item.AskPeer n t y) w w' acts
  peer-plays d n t y w w' acts least can is p =
      or-plays d (item.AskPeer n t y) w w' n (event.AskPeer t y) void.NotPart acts least (peer_most d n t y w can)
      (pending-up w n t is)
      (λ e h given f.
      let both = and_parts (node d (after [] h) n).up (is_some (pending t (journal d (after [] h) n)))
      (sym (world_pending d e h given w n t f least (peer_most d n t y w can)) ∙ is) in
      record { row = λ c. peer-row d (after [] h) n t y 0 c both.0 both.1; comes = tt; plain = λ e. cc; silent = refl }) p

  pub peer-runs : (d : DocumentData) (n : NodeId) (t : TxId) (y : NodeId) (w : World D g) → 1 ≤ n
      → CanPlay d (item.AskPeer n t y) w → is_pending_in w n t ≡ true → CanRun d n (event.AskPeer t y) w
  peer-runs d n t y w least can is =
      event-runs d (item.AskPeer n t y) w n (event.AskPeer t y) can least (peer_most d n t y w can) (pending-up w n t is)
      (λ past. tt)
