use Rattle.std.proofs.Common.{sym, subst}
use Rattle.std.specs.List.{All}
use Rattle.std.proofs.lemmas.Result.{IfOk-weaker}
use Rattle.journal_records.specs.Records.{CanEncode}
use Rattle.journal_records.proofs.Taking.{can_encode}
use Rattle.journal_words.proofs.SmallLists.{all-small-in-time}
use Rattle.node_journal.proofs.pair.Pair.small.Goals as goal

pub returns-clause-fit : goal.returns-clause-fit
returns-clause-fit g c =
    let read = c.in_ok-records_in.field-0.items in
    IfOk-weaker c.small.result _ _ (λ records e.
    subst (All CanEncode) (sym e)
    (all-small-in-time CanEncode read
    (λ k d h. can_encode _ (c.in_ok-records_in.ensures.fit k d h)))) c.small.ensures
