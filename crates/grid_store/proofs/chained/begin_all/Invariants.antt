use Rattle.std.proofs.Common.{drop}
use Rattle.placement.specs.Clusters.{init}
use Rattle.version_chain.specs.Kept.{StartsBy}
use Rattle.grid_store.proofs.ChainRooms.{IsBegun}
use Rattle.grid_store.proofs.chained.begin_all.Given as goal

abbrev pub invariant-loop-write : goal.invariant-loop-write
invariant-loop-write l = record {
  begun : IsBegun l.writes (drop l.write-index l.writes) l.fn.chains l.chains;
  initial : StartsBy (init l.cluster) l.fn.chains → StartsBy (init l.cluster) l.chains;
}
