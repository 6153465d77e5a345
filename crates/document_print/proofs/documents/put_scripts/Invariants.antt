use Rattle.std.proofs.Common.{◌≡◌, ◌++◌, drop}
use Rattle.std.specs.List.{flat_map}
use Rattle.script_lang.specs.Spelling.{script_text}
use Rattle.document_print.proofs.documents.put_scripts.Given as goal

abbrev pub invariant-loop-script : goal.invariant-loop-script
invariant-loop-script l =
    l.out.items ++ flat_map script_text (drop l.script-index l.scripts)
    ≡ l.fn.out.items ++ flat_map script_text l.scripts
