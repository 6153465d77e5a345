use Rattle.std.proofs.Common.{◌≡◌, ◌++◌, drop}
use Rattle.std.specs.List.{flat_map}
use Rattle.history_print.specs.Acts.{line}
use Rattle.script_lang.specs.Spelling.{op_words}
use Rattle.document_print.proofs.scripts.put_ops.Given as goal

abbrev pub invariant-loop-op : goal.invariant-loop-op
invariant-loop-op l =
    l.out.items ++ flat_map (λ o. line (op_words o)) (drop l.op-index l.ops)
    ≡ l.fn.out.items ++ flat_map (λ o. line (op_words o)) l.ops
