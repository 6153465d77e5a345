use Rattle.std.proofs.Common.{◌≡◌, vec_len}
use Rattle.score_base.specs.declared.ids.TxId.{TxId}
use Rattle.journal_words.specs.Small.{is_set}
use Rattle.journal_words.proofs.records.smaller.set.Given as goal

abbrev pub invariant-loop : goal.invariant-loop
invariant-loop l = record {
  same : (u : TxId) → is_set l.flags.items u ≡ is_set l.fn.flags.items u;
  long : vec_len l.flags ≡ l.counter;
}
