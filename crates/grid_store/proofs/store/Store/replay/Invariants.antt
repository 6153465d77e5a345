use Rattle.grid_store.proofs.Fronts.{IsFront}
use Rattle.grid_store.proofs.store.Store.replay.Given as goal

abbrev pub invariant-loop-rec : goal.invariant-loop-rec
invariant-loop-rec l = IsFront l.cluster l.fn.me l.records l.rec-index l.store
