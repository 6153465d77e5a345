-- The text of a run: the lines of its acts, and the summary.
use Rattle.std.specs.Prelude.{ℕ, List, [], ◌∷◌, ◌++◌, codes, Option, Some, None, if◌then◌else◌}
use Rattle.std.specs.Fmt.{decimal}
use Rattle.std.specs.List.{flat_map, range_with_len}
use Rattle.score_base.specs.declared.ids.NodeId.{NodeId}
use Rattle.score_base.specs.declared.ids.Ident.{Ident}
use Rattle.score_base.specs.declared.ids.TxId.{TxId}
use Rattle.score_base.specs.declared.keys.Key.{Key}
use Rattle.script_lang.specs.Scripts.{ScriptData}
use Rattle.placement.specs.Places.{holds}
use Rattle.placement.specs.Clusters.{ClusterData, init}
use Rattle.grid_model.specs.declared.acts.Act.{Act}
use Rattle.score_base.specs.declared.records.Record.{Record}
use Rattle.grid_model.specs.declared.stories.Story.{Story}
use Rattle.journal_words.specs.declared.versions.Version.{Version}
use Rattle.grid_model.specs.Documents.{DocumentData, script_numbers, keys_of_document, key_order, number_order}
use Rattle.grid_model.specs.Histories.{after}
use Rattle.journal_words.specs.Journals.{later_decision, is_closed, newest_version}
use Rattle.grid_model.specs.Nodes.{journal, script_of}
use Rattle.grid_model.specs.Stories.{Phase, Unbegun, Lost, Closed, Decided, Aborted, Answered, Reading, Collecting, phase_by, skipped_in, story}
use Rattle.grid_model.specs.Copies.{snapshot_in}
use Rattle.history_print.specs.Acts.{act_line, line, node_word}

-- ---- transactions

-- the words of a phase; behind an answered read-only transaction stands its snapshot identifier
unfoldable pub phase_words : Phase → Ident → List (List ℕ)
phase_words Unbegun sid = codes "unbegun" ∷ []
phase_words Lost sid = codes "lost" ∷ []
phase_words (Closed f) sid = codes "committed" ∷ decimal f ∷ []
phase_words (Decided y) sid = codes "committed" ∷ decimal y.final ∷ []
phase_words Aborted sid = codes "aborted" ∷ []
phase_words Answered sid = codes "read" ∷ decimal sid ∷ []
phase_words (Reading j) sid = codes "reading" ∷ decimal j ∷ []
phase_words Collecting sid = codes "collecting" ∷ []

-- the line of a script's transaction, by its story and by the journal of its home
unfoldable pub tx_line : ScriptData → Option Story → List Record → List ℕ
tx_line s o r =
    line (codes "tx" ∷ decimal s.number
    ∷ phase_words (phase_by s.ops o (is_closed s.number r) (later_decision (skipped_in o) s.number r)) (snapshot_in o))

-- the line of a transaction that has a script
unfoldable pub script_line : (TxId → Option Story) → (NodeId → List Record) → Option ScriptData → List ℕ
script_line stories journals None = []
script_line stories journals (Some s) = tx_line s (stories s.number) (journals s.home)

-- one line for each script, in rising number
unfoldable pub tx_lines : List ScriptData → (TxId → Option Story) → (NodeId → List Record) → List ℕ
tx_lines ss stories journals =
    flat_map (λ t. script_line stories journals (script_of t ss)) (number_order (script_numbers ss))

-- ---- keys

-- the line of a key at a node: the value and the identifier of its newest applied version
unfoldable pub version_line : Key → NodeId → Version → List ℕ
version_line k n w = line (codes "key" ∷ k ∷ node_word n ∷ decimal w.value ∷ decimal w.ident ∷ [])

-- the line of a key at a node that holds it, by the node's journal
unfoldable pub holder_line : ClusterData → (NodeId → List Record) → Key → NodeId → List ℕ
holder_line c journals k n =
    if holds c.places n k then version_line k n (newest_version (journals n) k (init c k)) else []

-- one line for each node that holds the key, rising
unfoldable pub key_lines : ClusterData → (NodeId → List Record) → Key → List ℕ
key_lines c journals k = flat_map (holder_line c journals k) (range_with_len 1 16)

-- the lines of each key that an initial value or an operation names, in byte order
unfoldable pub keys_lines : DocumentData → (NodeId → List Record) → List ℕ
keys_lines d journals = flat_map (key_lines d.cluster journals) (key_order (keys_of_document d.cluster.inits d.scripts))

-- ---- the whole

-- the summary, by the stories of the transactions and the journals of the nodes
unfoldable pub summary_by : DocumentData → (TxId → Option Story) → (NodeId → List Record) → List ℕ
summary_by d stories journals =
    line (codes "summary" ∷ []) ++ tx_lines d.scripts stories journals ++ keys_lines d journals

-- the summary of these acts
abbrev pub summary_text : DocumentData → List Act → List ℕ
summary_text d h = summary_by d (story d (after [] h)) (journal d (after [] h))

-- the text of a run with these acts
abbrev pub text : List Act → DocumentData → List ℕ
text h d = flat_map act_line h ++ summary_text d h
