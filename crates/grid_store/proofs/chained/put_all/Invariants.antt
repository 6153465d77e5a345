use Rattle.std.proofs.Common.{drop}
use Rattle.version_chain.specs.Kept.{Kept}
use Rattle.grid_store.specs.Chained.{CanPutAll, IsPut}
use Rattle.grid_store.proofs.chained.put_all.Given as goal

abbrev pub invariant-loop-write : goal.invariant-loop-write
invariant-loop-write l = record {
  can : CanPutAll (drop l.write-index l.writes) l.f l.chains;
  put : (last : Kept) → IsPut (drop l.write-index l.writes) l.f l.chains last → IsPut l.writes l.f l.fn.chains last;
}
