-- An act that tells of a node tells of no transaction.
use Rattle.std.proofs.Common.{◌≡◌, List, Some, refl}
use Rattle.score_base.specs.declared.ids.TxId.{TxId}
use Rattle.score_base.specs.declared.ids.NodeId.{NodeId}
use Rattle.grid_model.specs.declared.acts.Act.{Act}
use Rattle.grid_model.specs.declared.acts.Act.TheVariants as act
use Rattle.grid_model.specs.Documents.{DocumentData}
use Rattle.run_tally.specs.declared.txs.TxTally.{TxTally}
use Rattle.run_tally.specs.Tallies.{node_told, txs_behind}

pub txs_same : (d : DocumentData) (a : Act) (n : NodeId) (xs : List (TxId × TxTally)) → node_told d a ≡ Some n →
    txs_behind a xs ≡ xs
txs_same d (act.Began t m sid0) n xs is = cc
txs_same d (act.Taken t j sid v) n xs is = cc
txs_same d (act.Finished t) n xs is = cc
txs_same d (act.Aborted t m why) n xs is = cc
txs_same d (act.Lost t) n xs is = cc
txs_same d a n xs is = refl
