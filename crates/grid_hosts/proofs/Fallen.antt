-- Where a node stands that went down.
use Rattle.std.proofs.Common.{◌≡◌, ℕ, length, Option, Some, refl, sym, ap, subst, ◌∙◌}
use Rattle.score_disk.specs.declared.disk.Disk.{Ghosts}
use Rattle.node_journal.specs.PairDisks.{first_of, last_of, list_of}
use Rattle.grid_model.specs.declared.acts.Head.{Head}
use Rattle.grid_model.specs.declared.events.Event.{Event}
use Rattle.node_core.specs.declared.nodes.Node.{Node}
use Rattle.node_core.specs.Steps.{IsDown}
use Rattle.grid_hosts.specs.declared.falls.Fall.{Fall}
use Rattle.grid_hosts.specs.declared.hosts.Host.{Host}
use Rattle.grid_hosts.specs.declared.hosts.Place.{Place}
use Rattle.grid_hosts.specs.declared.hosts.Place.TheVariants.{Up, Down}
use Rattle.grid_hosts.specs.declared.steps.Ran.{Ran}
use Rattle.grid_hosts.specs.Hosts.{IsCrashed, FallsTo, HasStopped, HasRun, HasCompacted, Settles, fall_of}
use Rattle.grid_model.specs.declared.events.Event.TheVariants as event

module _ {D : Type 0} {g : Ghosts D} where
  -- both disks were crashed, and these numbers were read before
  pub falls : (node : Node D g) (first second first' second' one two : D) (h h' : Option Head)
      (count generation : ℕ) (fall : Fall) → first ≡ first' → second ≡ second' → IsCrashed g first one
      → IsCrashed g second two → h ≡ h' → count ≡ length (list_of node.pair) → generation ≡ node.pair.number
      → fall ≡ record { head = h; count = count; generation = generation }
      → FallsTo node first' second' h' (Down one two fall)
  falls node first second first' second' one two h h' count generation fall f s a b head c gen is = record {
    one = one;
    two = two;
    first_is = subst (λ x. IsCrashed g x one) f a;
    second_is = subst (λ x. IsCrashed g x two) s b;
    place = ap (λ x. Down one two x) (is ∙ (λ i. record { head = head i; count = c i; generation = gen i }));
  }

  pub stopped-down : (node : Node D g) (e : Event) (h : Head) (p : Place D g) (first second : D)
      → IsDown node e first second h → FallsTo node first second (Some h) p → HasStopped node e h p
  stopped-down node e h p first second down f = record { first = first; second = second; down = down; falls = f }

  -- a compaction that ended so, by the step of it
  pub compacted : (h mid now : Host D g) (r r' : Ran) → HasRun h event.Compact mid r → r ≡ r' → Settles r' mid now
      → HasCompacted h now r'
  compacted h mid now r r' run same behind = record { mid = mid; run = subst (HasRun h event.Compact mid) same run; behind = behind }
