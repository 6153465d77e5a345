use Rattle.std.proofs.Common.{rules, ◌≡◌, ◌++◌, OnOk, subst, ℕ, List}
use Rattle.std.specs.List.{flat_map}
use Rattle.placement.specs.Clusters.{ClusterData}
use Rattle.cluster_file.specs.Spelling.{nodes_words, partition_lines, init_words}
use Rattle.history_print.specs.Acts.{line}
use Rattle.document_print.proofs.Appending.{put_behind}
use Rattle.document_print.proofs.DocumentText.{lines_of_cluster}
use Rattle.document_print.proofs.documents.put_cluster.Goals as goal

pub returns : goal.returns
returns c =
    let d : ClusterData = c.args.cluster.now in
    let old : List ℕ = c.args.out.now.items in
    let head : List ℕ = c.put_nodes.new.out.items in
    let body : List ℕ = c.put_partitions.new.out.items in
    let new : List ℕ = c.put_inits.new.out.items in
    let first : List ℕ = line (nodes_words d.nodes) in
    let lines : List ℕ = flat_map line (partition_lines 0 d.places) in
    let last : List ℕ = flat_map (λ x. line (init_words x)) d.inits in
    let nodes : head ≡ old ++ first = search rules in
    let places : body ≡ head ++ lines = search rules in
    let inits : OnOk c.put_inits.result (new ≡ body ++ last) = search rules in
    let behind = put_behind c.put_inits.result head body new lines last places inits in
    subst (λ t. OnOk c.put_inits.result (new ≡ old ++ t)) (lines_of_cluster d)
    (put_behind c.put_inits.result old head new first (lines ++ last) nodes behind)
