use Rattle.std.proofs.Common.{◌∙◌, ◌++◌, ap, reverse, false}
use Rattle.std.specs.List.{slice_index_or}
use Rattle.journal_words.specs.Small.{is_set, small, without_needless}
use Rattle.journal_words.proofs.Needless.{nothing-later}
use Rattle.journal_words.proofs.records.smaller.small.Goals as goal

pub loop-rec-init : goal.loop-rec-init
loop-rec-init c =
    ap (λ s. s ++ without_needless false (is_set c.new.result.items) (small (reverse c.args.records.items)))
    c.new-kept.ensures.items
    ∙ nothing-later (is_set c.new.result.items) (λ t. ap (λ xs. slice_index_or xs t false) c.new.ensures.items)
    (reverse c.args.records.items)
