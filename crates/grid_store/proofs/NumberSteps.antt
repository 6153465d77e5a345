-- When is a number above every proposal and every final identifier?
use Rattle.std.proofs.Common.{◌≡◌, ◌≤◌, List, [], ◌∷◌, arith}
use Rattle.std.proofs.lemmas.Bool.Decides.{nat_tests}
use Rattle.std.specs.Prelude.{nat_lt}
use Rattle.score_base.specs.declared.ids.Ident.{Ident}
use Rattle.score_base.specs.declared.causes.Outcome.TheVariants as outcome
use Rattle.score_base.specs.declared.records.Record.{Record}
use Rattle.score_base.specs.declared.records.Record.TheVariants as record'
use Rattle.journal_words.specs.Journals.{is_above}
use Rattle.grid_store.specs.Keeping.{highest}

-- a number from 1 on is above them where it is above the greatest of them
pub above-highest : (p : Ident) (r : List Record) → 1 ≤ p → is_above p r ≡ nat_lt (highest r) p
above-highest p [] some = grind (arith, nat_tests, some)
above-highest p (record'.Prepared t home parts sid q reads writes ∷ r) some = grind (arith, nat_tests, above-highest p r some)
above-highest p (record'.Ended t (outcome.Commit f) ∷ r) some = grind (arith, nat_tests, above-highest p r some)
above-highest p (record'.Ended t outcome.Abort ∷ r) some = above-highest p r some
above-highest p (record'.Ceiling d ∷ r) some = above-highest p r some
above-highest p (record'.Decided t f parts ∷ r) some = above-highest p r some
above-highest p (record'.Closed t ∷ r) some = above-highest p r some
