-- The text of a tally: a line for each transaction, then one for each key at each of its holders.
use Rattle.std.specs.Prelude.{ℕ, ◌&&◌, not, List, [], ◌∷◌, ◌++◌, codes, Option, Some, None, if◌then◌else◌}
use Rattle.std.specs.Fmt.{decimal}
use Rattle.std.specs.List.{flat_map, range_with_len}
use Rattle.score_base.specs.declared.ids.TxId.{TxId}
use Rattle.score_base.specs.declared.ids.NodeId.{NodeId}
use Rattle.score_base.specs.declared.ids.Ident.{Ident}
use Rattle.score_base.specs.declared.ids.Value.{Value}
use Rattle.score_base.specs.declared.keys.Key.{Key}
use Rattle.script_lang.specs.declared.scripts.Op.{Op}
use Rattle.script_lang.specs.Scripts.{ScriptData}
use Rattle.script_lang.specs.Reads.{is_update}
use Rattle.script_runs.specs.Waits.{waiting}
use Rattle.placement.specs.Places.{holds}
use Rattle.placement.specs.Clusters.{ClusterData, init}
use Rattle.journal_words.specs.declared.versions.Version.{Version}
use Rattle.journal_words.specs.Journals.{all_above, written_value, later}
use Rattle.grid_model.specs.Documents.{DocumentData, script_numbers, keys_of_document, key_order, number_order}
use Rattle.grid_model.specs.Keyed.{at_key}
use Rattle.grid_model.specs.Nodes.{script_of}
use Rattle.grid_model.specs.Stories.{first_sid}
use Rattle.history_print.specs.Acts.{line}
use Rattle.history_print.specs.Begun.{decided_words, undecided_words}
use Rattle.history_print.specs.Text.{version_line}
use Rattle.run_tally.specs.declared.noted.Noted.{Noted}
use Rattle.run_tally.specs.declared.txs.TxTally.{TxTally}
use Rattle.run_tally.specs.Tallies.{NodeData, TallyData, node_in}

-- ---- transactions

-- the words of a transaction that was not decided
abbrev pub told_words : List Op → TxTally → List (List ℕ)
told_words ops x =
    undecided_words x.aborted (x.finished && not (is_update ops)) (waiting ops x.values) (first_sid x.sid x.sid0)

-- the words of a transaction, by its entry and by the final identifier of the decision that stands
unfoldable pub tx_words : List Op → Option TxTally → Option Ident → List (List ℕ)
tx_words ops None f = codes "unbegun" ∷ []
tx_words ops (Some x) f = if x.lost then codes "lost" ∷ [] else decided_words f (told_words ops x)

-- the line of a script's transaction
unfoldable pub told_line : TallyData → Option ScriptData → List ℕ
told_line x None = []
told_line x (Some s) =
    line (codes "tx" ∷ decimal s.number
    ∷ tx_words s.ops (at_key s.number x.txs) (at_key s.number (node_in s.home x.nodes).decided))

-- one line for each script, in rising number
unfoldable pub told_lines : List ScriptData → TallyData → List ℕ
told_lines ss x = flat_map (λ t. told_line x (script_of t ss)) (number_order (script_numbers ss))

-- ---- keys

-- what a Prepare writes to k, where there is one
abbrev pub wrote_by : Option Noted → Key → Option Value
wrote_by None k = None
wrote_by (Some x) k = written_value k x.writes

-- the version of k with the greatest pair among those of these commits that are applied, or the initial one
abbrev pub newest_of : NodeData → Key → Value → List (TxId × Ident) → Version
newest_of x k start [] = record { ident = 0; of = 0; value = start }
newest_of x k start (y ∷ ys) =
    if all_above y.1 x.pending
    then later y.1 y.0 (wrote_by (at_key y.0 x.writes) k) (newest_of x k start ys)
    else newest_of x k start ys

-- the newest applied version of k at a node
abbrev pub newest_at : NodeData → Key → Value → Version
newest_at x k start = newest_of x k start x.commits

-- the line of a key at a node that holds it
unfoldable pub told_key : ClusterData → TallyData → Key → NodeId → List ℕ
told_key c x k n =
    if holds c.places n k then version_line k n (newest_at (node_in n x.nodes) k (init c k)) else []

-- one line for each node that holds the key, rising
unfoldable pub told_holders : ClusterData → TallyData → Key → List ℕ
told_holders c x k = flat_map (told_key c x k) (range_with_len 1 16)

-- the lines of each key that an initial value or an operation names, in byte order
unfoldable pub told_keys : DocumentData → TallyData → List ℕ
told_keys d x = flat_map (told_holders d.cluster x) (key_order (keys_of_document d.cluster.inits d.scripts))

-- ---- the whole

-- the text of a tally
unfoldable pub TallyText : DocumentData → TallyData → List ℕ
TallyText d x = line (codes "summary" ∷ []) ++ told_lines d.scripts x ++ told_keys d x
