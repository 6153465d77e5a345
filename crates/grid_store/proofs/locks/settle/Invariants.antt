use Rattle.std.proofs.Common.{◌≡◌}
use Rattle.std.specs.FinSet as set
use Rattle.score_base.specs.declared.ids.NodeId.{NodeId}
use Rattle.score_base.specs.declared.ids.Value.{Value}
use Rattle.score_base.specs.declared.keys.Key.{Key}
use Rattle.placement.specs.Clusters.{ClusterData}
use Rattle.version_chain.specs.Kept.{StartsBy}
use Rattle.grid_store.specs.Chained.{Applies}
use Rattle.grid_store.proofs.locks.settle.Given as goal

abbrev pub invariant-loop-first : goal.invariant-loop-first
invariant-loop-first l = record {
  applies : (c : ClusterData) × (n : NodeId) × Applies c n l.records l.places.pairs l.pending.proposals l.stable.commits l.locks l.applied l.chains;
  places : l.chains.places ≡ l.fn.chains.places;
  initial : (init : Key → Value) → StartsBy init l.fn.chains → StartsBy init l.chains;
}

abbrev pub decreases-loop-first : goal.decreases-loop-first
decreases-loop-first l = set.len l.stable.commits
