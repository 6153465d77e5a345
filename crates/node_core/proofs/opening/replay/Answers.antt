use Rattle.std.proofs.Common.{ap, subst, sym, ◌∙◌}
use Rattle.grid_store.specs.Replay.{IsReplayed}
use Rattle.snapshot_read.specs.Held.{HeldReads}
use Rattle.node_core.proofs.OpenedNodes.{opened-shown, opened-own}
use Rattle.node_core.proofs.opening.replay.Goals as goal

pub joined-requires : goal.joined-requires
joined-requires g c =
    opened-own c.args.cluster.now c.args.id c.args.records.now c.in-Ok.store _ _ c.in-Ok.ensures.store c.new.ensures
    c.in-Ok-replay.ensures

pub returns-in-Ok-replay : goal.returns-in-Ok-replay
returns-in-Ok-replay g c =
    let k = c.args.cluster.now in
    let n = c.args.id in
    let rs = c.args.records.now in
    let node = c.joined.result in
    let store : IsReplayed k n rs node.store =
    subst (IsReplayed k n rs) (sym c.joined.ensures.store) c.in-Ok.ensures.store in (
      store,
      opened-shown k n rs node.store node.waiting.reads node.desk store
          (ap (λ (w : HeldReads). w.reads) c.joined.ensures.waiting ∙ c.new.ensures)
          (c.joined.ensures.desk ∙ c.in-Ok-replay.ensures),
      c.joined.ensures.pair,
    )
