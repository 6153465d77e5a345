use Rattle.std.proofs.Common.{◌≡◌, drop}
use Rattle.score_base.specs.declared.ids.Value.{Value}
use Rattle.score_base.specs.declared.keys.Key.{Key}
use Rattle.version_chain.specs.Kept.{StartsBy}
use Rattle.grid_store.specs.Chained.{IsWider}
use Rattle.grid_store.proofs.ChainRooms.{IsMade}
use Rattle.grid_store.proofs.chained.lengthen_all.Given as goal

abbrev pub invariant-loop-write : goal.invariant-loop-write
invariant-loop-write l = record {
  made : IsMade l.writes (drop l.write-index l.writes) l.chains;
  wider : IsWider l.fn.chains l.chains;
  places : l.chains.places ≡ l.fn.chains.places;
  initial : (init : Key → Value) → StartsBy init l.fn.chains → StartsBy init l.chains;
}
