use Rattle.std.proofs.Common.{◌≡◌, ◌++◌, OnOk, subst, ℕ, List, codes}
use Rattle.std.specs.List.{flat_map}
use Rattle.script_lang.specs.Spelling.{script_text}
use Rattle.grid_model.specs.Documents.{DocumentData}
use Rattle.cluster_file.specs.Spelling.{item_words}
use Rattle.history_print.specs.Acts.{line}
use Rattle.document_print.specs.Lines.{cluster_lines}
use Rattle.document_print.proofs.Appending.{put_behind}
use Rattle.document_print.proofs.DocumentText.{spelling_of}
use Rattle.document_print.proofs.documents.put_document.Goals as goal

pub returns : goal.returns
returns c =
    let d : DocumentData = c.args.doc.now in
    let old : List ℕ = c.args.out.now.items in
    let head : List ℕ = c.put_cluster.new.out.items in
    let body : List ℕ = c.put_scripts.new.out.items in
    let named : List ℕ = c.put_bytes.new.out.items in
    let new : List ℕ = c.put_items.new.out.items in
    let first : List ℕ = flat_map line (cluster_lines d.cluster) in
    let texts : List ℕ = flat_map script_text d.scripts in
    let last : List ℕ = flat_map (λ i. line (item_words i)) d.items in
    let cluster = rw c.cluster.ensures.value at c.in_ok-put_cluster.ensures in
    let scripts = rw c.scripts.ensures.value at c.in_ok-put_scripts.ensures in
    let items = rw c.items.ensures.value at c.put_items.ensures in
    let word : List ℕ = codes "schedule\n" in
    let schedule = put_behind c.put_items.result body named new word last c.in_ok-put_bytes.ensures.ok items in
    let behind = put_behind c.put_items.result head body new texts (word ++ last) scripts schedule in
    subst (λ t. OnOk c.put_items.result (new ≡ old ++ t)) (spelling_of d)
    (put_behind c.put_items.result old head new first (texts ++ (word ++ last)) cluster behind)
