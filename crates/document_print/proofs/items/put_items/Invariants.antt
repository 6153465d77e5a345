use Rattle.std.proofs.Common.{◌≡◌, ◌++◌, drop}
use Rattle.std.specs.List.{flat_map}
use Rattle.history_print.specs.Acts.{line}
use Rattle.cluster_file.specs.Spelling.{item_words}
use Rattle.document_print.proofs.items.put_items.Given as goal

abbrev pub invariant-loop-item : goal.invariant-loop-item
invariant-loop-item l =
    l.out.items ++ flat_map (λ i. line (item_words i)) (drop l.item-index l.items)
    ≡ l.fn.out.items ++ flat_map (λ i. line (item_words i)) l.items
