-- A compaction.
use Rattle.std.proofs.Common.{◌≡◌, ◌≤◌, true, false, List, [], refl, sym, ap, ◌∙◌}
use Rattle.score_base.specs.declared.ids.NodeId.{NodeId}
use Rattle.score_disk.specs.declared.disk.Disk.{Ghosts}
use Rattle.grid_model.specs.declared.acts.Act.{Act}
use Rattle.grid_model.specs.declared.events.Event.TheVariants as event
use Rattle.grid_model.specs.declared.items.Item.TheVariants as item
use Rattle.grid_model.specs.declared.voids.Void.TheVariants as void
use Rattle.grid_model.specs.Documents.{DocumentData}
use Rattle.grid_model.specs.Histories.{after}
use Rattle.grid_model.specs.Voids.{voided}
use Rattle.grid_world.proofs.ForCode.{compact-row}
use Rattle.grid_hosts.specs.declared.hosts.Host.{Host}
use Rattle.grid_hosts.specs.declared.steps.Ran.{Ran}
use Rattle.grid_hosts.specs.declared.steps.Ran.TheVariants.{Outs, Stopped, Memory}
use Rattle.grid_hosts.specs.Hosts.{HasCompacted, Settles}
use Rattle.grid_world.specs.declared.worlds.World.{World}
use Rattle.grid_world.specs.Follows.{CanPlay, Plays}
use Rattle.grid_world.specs.Worlds.{CanRun, HasPlayed, HasTold, is_up_in}
use Rattle.grid_world.proofs.Known.{at-most, follows-few, follows-up, next-item, up-standing}
use Rattle.grid_world.proofs.RanRows.{compact-plays}
use Rattle.grid_world.proofs.AskRows.{down-plays, event-runs}

module _ {D : Type 0} {g : Ghosts D} where
  compact_most : (d : DocumentData) (n : NodeId) (w : World D g) → CanPlay d (item.Compact n) w → n ≤ d.cluster.nodes
  compact_most d n w can = at-most n d.cluster.nodes (next-item d can.e (item.Compact n) can.one can.next)

  pub down-compacts : (d : DocumentData) (n : NodeId) (w w' : World D g) → 1 ≤ n → CanPlay d (item.Compact n) w
      → is_up_in w n ≡ false → HasTold d (voided void.NotUp) w w' → Plays d (item.Compact n) w w' (voided void.NotUp)
  down-compacts d n w w' least can down told =
      down-plays d (item.Compact n) w w' n void.NotUp least (compact_most d n w can) down (λ past down'. rw down' refl) told

  pub compact-runs : (d : DocumentData) (n : NodeId) (w : World D g) → 1 ≤ n → CanPlay d (item.Compact n) w
      → is_up_in w n ≡ true → CanRun d n event.Compact w
  compact-runs d n w least can up =
      event-runs d (item.Compact n) w n event.Compact can least (compact_most d n w can) up (λ past. tt)

  settled_id : (r : Ran) (mid now : Host D g) → Settles r mid now → now.id ≡ mid.id
  settled_id (Outs outs) mid now s = s.id
  settled_id (Stopped h) mid now s = ap (λ x. x.id) s
  settled_id Memory mid now s = ap (λ x. x.id) s

  compacted_id : (x y : Host D g) (r : Ran) → HasCompacted x y r → y.id ≡ x.id
  compacted_id x y r c = settled_id r c.mid y c.behind ∙ c.run.id

  pub small-plays : (d : DocumentData) (n : NodeId) (w mid w' : World D g) (acts : List Act) → 1 ≤ n
      → CanPlay d (item.Compact n) w → is_up_in w n ≡ true
      → HasPlayed n (λ x y r. HasCompacted x y r) w mid acts → HasTold d acts mid w' → Plays d (item.Compact n) w w' acts
  small-plays d n w mid w' acts least can up p told =
      compact-plays d (item.Compact n) w mid w' n acts
      (record {
        hosts = refl;
        tally = refl;
        keeps = record { rest = refl; given_up = refl };
        played = p;
        told = told;
        id = compacted_id p.moved.before p.moved.now p.ran p.moved.turned;
      })
      (up-standing w n p.moved.before up p.moved.at)
      (λ e h given one f next few.
      record {
        row = λ c. compact-row d (after [] h) n 0 c (sym (follows-up d e h given w n f least (compact_most d n w can)) ∙ up);
        comes = tt;
        least = least;
        most = compact_most d n w can;
        few = follows-few d e h given w f few;
        sent = f.sent;
      })
