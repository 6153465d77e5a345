use Rattle.std.proofs.Common.{◌≡◌, ◌++◌, OnOk, subst, ℕ, List, codes}
use Rattle.std.specs.List.{flat_map}
use Rattle.script_lang.specs.Scripts.{ScriptData}
use Rattle.script_lang.specs.Spelling.{tx_words, op_words}
use Rattle.history_print.specs.Acts.{line}
use Rattle.document_print.proofs.Appending.{put_behind}
use Rattle.document_print.proofs.ScriptText.{text_of}
use Rattle.document_print.proofs.scripts.put_script.Goals as goal

pub returns : goal.returns
returns c =
    let s : ScriptData = c.args.script.now in
    let old : List ℕ = c.args.out.now.items in
    let head : List ℕ = c.put_first_line.new.out.items in
    let body : List ℕ = c.put_ops.new.out.items in
    let new : List ℕ = c.put_bytes.new.out.items in
    let first : List ℕ = line (tx_words s) in
    let lines : List ℕ = flat_map (λ o. line (op_words o)) s.ops in
    let ops = rw c.ops.ensures.value at c.in_ok-put_ops.ensures in
    let behind = put_behind c.put_bytes.result head body new lines (codes "end\n") ops c.put_bytes.ensures.ok in
    subst (λ t. OnOk c.put_bytes.result (new ≡ old ++ t)) (text_of s)
    (put_behind c.put_bytes.result old head new first (lines ++ codes "end\n") c.in_ok-put_first_line.ensures behind)
