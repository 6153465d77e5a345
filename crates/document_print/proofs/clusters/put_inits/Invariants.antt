use Rattle.std.proofs.Common.{◌≡◌, ◌++◌, drop}
use Rattle.std.specs.List.{flat_map}
use Rattle.history_print.specs.Acts.{line}
use Rattle.cluster_file.specs.Spelling.{init_words}
use Rattle.document_print.proofs.clusters.put_inits.Given as goal

abbrev pub invariant-loop-init : goal.invariant-loop-init
invariant-loop-init l =
    l.out.items ++ flat_map (λ x. line (init_words x)) (drop l.init-index l.inits)
    ≡ l.fn.out.items ++ flat_map (λ x. line (init_words x)) l.inits
