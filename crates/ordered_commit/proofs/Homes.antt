-- Who has a home, who is acknowledged once more, and what is the record of an end?
use Rattle.std.proofs.Common.{◌≡◌, true, List, Option, Some, None, is_some, refl, ap, arith}
use Rattle.score_base.specs.declared.ids.TxId.{TxId}
use Rattle.score_base.specs.declared.ids.NodeId.{NodeId}
use Rattle.score_base.specs.declared.ids.Ident.{Ident}
use Rattle.score_base.specs.declared.causes.Outcome.{Outcome}
use Rattle.score_base.specs.declared.causes.Outcome.TheVariants as outcome
use Rattle.score_base.specs.declared.records.Record.{Record}
use Rattle.placement.specs.Clusters.{ClusterData}
use Rattle.journal_words.specs.Journals.{home_in, home_of, pending, ended, all_fit}
use Rattle.journal_words.proofs.Once.{pending-prepared, pending-says}
use Rattle.grid_store.specs.Given.{Given}
use Rattle.ordered_commit.specs.declared.dues.EndDue.{EndDue}
use Rattle.ordered_commit.specs.Ends.{ack_of, repeat_of, IsDue, IsOf}

-- a pending transaction has the home of its Prepared
pub pending-home : (t : TxId) (r : List Record) → is_some (pending t r) ≡ true →
    (x : NodeId) × (home_of t r ≡ Some x)
pending-home t r h = go (pending t r) refl h
  where
    go : (q : Option Ident) → pending t r ≡ q → is_some q ≡ true → (x : NodeId) × (home_of t r ≡ Some x)
    go None is h = absurd (grind (arith, h))
    go (Some p) is h = let x = pending-prepared t p r is in (x.0.home, ap home_in x.1)

-- a transaction that did not end has nothing to repeat
repeat-none : (t : TxId) (o : Outcome) (r : List Record) → ended t r ≡ None → None ≡ repeat_of t o r
repeat-none t (outcome.Commit f) r e = rw e refl
repeat-none t outcome.Abort r e = refl

-- where each record fits, a pending transaction has nothing to repeat
pub ack-repeat : (c : ClusterData) (n : NodeId) (t : TxId) (o : Outcome) (r : List Record) →
    all_fit c n r ≡ true → ack_of t o r ≡ repeat_of t o r
ack-repeat c n t o r fit = go (pending t r) refl
  where
    go : (q : Option Ident) → pending t r ≡ q → ack_of t o r ≡ repeat_of t o r
    go None is = rw is refl
    go (Some p) is = rw is (repeat-none t o r (pending-says c n t p r fit is).running)

-- the record with which an end is due is its own
pub due-of : (s : Given) (t : TxId) (o : Outcome) (due : EndDue) (rec : Record) → IsDue s t o due rec → IsOf due rec
due-of s t o due rec d = rw (d.tx, d.outcome) d.is
