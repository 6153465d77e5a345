-- What an event leaves of a node that stands.
use Rattle.std.proofs.Common.{◌≡◌, ℕ, List}
use Rattle.score_base.specs.declared.ids.NodeId.{NodeId}
use Rattle.score_disk.specs.declared.disk.Disk.{Ghosts}
use Rattle.grid_model.specs.declared.acts.Act.{Act}
use Rattle.grid_model.specs.declared.events.Event.{Event}
use Rattle.grid_model.specs.declared.events.Event.TheVariants as event
use Rattle.grid_model.specs.Documents.{DocumentData}
use Rattle.grid_model.specs.NextViews.{Comes}
use Rattle.node_core.specs.declared.nodes.Node.{Node}
use Rattle.grid_hosts.specs.declared.hosts.Place.{Place}
use Rattle.grid_hosts.specs.declared.hosts.Place.TheVariants.{Up, Down}
use Rattle.grid_hosts.specs.declared.steps.Ran.{Ran}
use Rattle.grid_hosts.specs.declared.steps.Ran.TheVariants.{Outs, Stopped, Memory}
use Rattle.grid_hosts.specs.Hosts.{Runs}
use Rattle.host_laws.specs.Standing.{NodeStands}
use Rattle.host_laws.specs.Turns.{RanBehind}
use Rattle.host_laws.proofs.StepRows.{gives-row}
use Rattle.host_laws.proofs.StepStops.{stops-row}

module _ {D : Type 0} {g : Ghosts D} where
  pub runs-behind : (d : DocumentData) (past : List Act) (n : NodeId) (m : ℕ) (e : Event)
      (x : Node D g) (q : Place D g) (r : Ran) → NodeStands d past n x → Comes d past n m e →
      (e ≡ event.Compact → ⊥) → Runs x e q r → RanBehind d past n m e (Up x) q r
  runs-behind d past n m e x (Up now) (Outs outs) st comes other is =
      gives-row d past n m e x now outs.items st comes other is
  runs-behind d past n m e x (Down a b fall) (Outs outs) st comes other is = absurd is
  runs-behind d past n m e x (Up now) (Stopped h) st comes other is =
      stops-row d past n m e x (Up now) h st comes other is
  runs-behind d past n m e x (Down a b fall) (Stopped h) st comes other is =
      stops-row d past n m e x (Down a b fall) h st comes other is
  runs-behind d past n m e x q Memory st comes other is = tt
