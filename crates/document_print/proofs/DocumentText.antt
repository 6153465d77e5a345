-- The spelling of a document, piece by piece: its cluster, its scripts, its schedule.
use Rattle.std.proofs.Common.{◌≡◌, ℕ, List, [], ◌∷◌, ◌++◌, refl, ap, ap₂, sym, ◌∙◌, map, codes, append_assoc}
use Rattle.std.specs.List.{flat_map}
use Rattle.std.proofs.lemmas.List.Folds.{flat_map-map}
use Rattle.std.proofs.lemmas.Grind.{flat_map-append}
use Rattle.script_lang.specs.Scripts.{ScriptData}
use Rattle.script_lang.specs.Spelling.{script_words, script_text}
use Rattle.placement.specs.Clusters.{ClusterData}
use Rattle.grid_model.specs.Documents.{DocumentData}
use Rattle.cluster_file.specs.Spelling.{nodes_words, partition_lines, init_words, item_words, document_lines, spelling}
use Rattle.history_print.specs.Acts.{line}
use Rattle.document_print.specs.Lines.{cluster_lines}
use Rattle.document_print.proofs.SameLines.{same_lines, same_text}

-- the lines of a cluster
pub lines_of_cluster : (c : ClusterData)
    → line (nodes_words c.nodes)
    ++ (flat_map line (partition_lines 0 c.places) ++ flat_map (λ x. line (init_words x)) c.inits)
    ≡ flat_map line (cluster_lines c)
lines_of_cluster c =
    ap (λ l. line (nodes_words c.nodes) ++ l)
    (ap (λ l. flat_map line (partition_lines 0 c.places) ++ l) (sym (flat_map-map line init_words c.inits))
    ∙ sym (flat_map-append line (partition_lines 0 c.places) (map init_words c.inits)))

-- the texts of scripts
texts_of_scripts : (ss : List ScriptData) → flat_map script_text ss ≡ flat_map line (flat_map script_words ss)
texts_of_scripts [] = refl
texts_of_scripts (s ∷ ss) =
    ap₂ (λ l r. l ++ r) (sym (same_text (script_words s))) (texts_of_scripts ss)
    ∙ sym (flat_map-append line (script_words s) (flat_map script_words ss))

-- the words of the lines behind the cluster's
abbrev words_behind : DocumentData → List (List (List ℕ))
words_behind d = flat_map script_words d.scripts ++ ((codes "schedule" ∷ []) ∷ map item_words d.items)

-- the lines of the scripts and of the schedule
lines_behind : (d : DocumentData)
    → flat_map script_text d.scripts ++ (codes "schedule\n" ++ flat_map (λ i. line (item_words i)) d.items)
    ≡ flat_map line (words_behind d)
lines_behind d =
    ap₂ (λ l r. l ++ (codes "schedule\n" ++ r)) (texts_of_scripts d.scripts)
    (sym (flat_map-map line item_words d.items))
    ∙ sym (flat_map-append line (flat_map script_words d.scripts) ((codes "schedule" ∷ []) ∷ map item_words d.items))

-- the words of each line stand as in the format
lines_of : (d : DocumentData)
    → flat_map line (cluster_lines d.cluster)
    ++ (flat_map script_text d.scripts ++ (codes "schedule\n" ++ flat_map (λ i. line (item_words i)) d.items))
    ≡ flat_map line (document_lines d)
lines_of d =
    ap (λ l. flat_map line (cluster_lines d.cluster) ++ l) (lines_behind d)
    ∙ sym (flat_map-append line (cluster_lines d.cluster) (words_behind d))
    ∙ ap (λ ls. flat_map line (nodes_words d.cluster.nodes ∷ ls))
    (append_assoc (partition_lines 0 d.cluster.places) (map init_words d.cluster.inits) (words_behind d))

pub spelling_of : (d : DocumentData)
    → flat_map line (cluster_lines d.cluster)
    ++ (flat_map script_text d.scripts ++ (codes "schedule\n" ++ flat_map (λ i. line (item_words i)) d.items))
    ≡ spelling d
spelling_of d = lines_of d ∙ same_lines (document_lines d)
