-- What is the record of a yes, may it be encoded, and who has no Prepared yet?
use Rattle.std.proofs.Common.{◌≡◌, ◌<◌, ◌+◌, zero, suc, true, List, [], ◌∷◌, Option, Some, None, refl, sym, add-one, arith}
use Rattle.std.proofs.lemmas.Bool.{and_parts}
use Rattle.std.proofs.lemmas.Bool.Decides.{nat_tests}
use Rattle.std.specs.Prelude.{nat_lt}
use Rattle.std.specs.List.Sorted.{IsStrictlyIncreasing}
use Rattle.score_base.specs.declared.ids.TxId.{TxId}
use Rattle.score_base.specs.declared.ids.NodeId.{NodeId}
use Rattle.score_base.specs.declared.ids.Ident.{Ident}
use Rattle.score_base.specs.declared.causes.Outcome.{Outcome}
use Rattle.score_base.specs.declared.records.Record.{Record}
use Rattle.score_base.specs.declared.records.Record.TheVariants as record'
use Rattle.placement.specs.Clusters.{ClusterData}
use Rattle.journal_records.specs.Records.{CanEncode}
use Rattle.journal_words.specs.Journals.{prepared_of, pending, ended, all_fit}
use Rattle.journal_words.proofs.Once.{ended-over}
use Rattle.grid_model.specs.declared.messages.Prepare.{Prepare}
use Rattle.grid_model.specs.Fitness.{is_fit_prepare, is_rising}
use Rattle.grid_store.specs.Given.{Given}
use Rattle.prepare_vote.specs.declared.dues.Due.{Due}
use Rattle.prepare_vote.specs.Votes.{vote_record, again_of, IsDue, IsOf}

rising : (ns : List NodeId) → is_rising ns ≡ true → IsStrictlyIncreasing ns
rising [] h k lt = absurd (omega (arith, lt))
rising (n ∷ []) h k lt = absurd (omega (arith, lt))
rising (n ∷ (m ∷ ns)) h zero lt = grind (arith, nat_tests, h)
rising (n ∷ (m ∷ ns)) h (suc k) lt =
    let a = and_parts (nat_lt n m) (is_rising (m ∷ ns)) h in
    let more = rising (m ∷ ns) a.1 k (omega (arith, lt)) in
    rw add-one (rw add-one at more)

-- the record of a yes on a fit Prepare may be encoded
pub vote-encodes : (c : ClusterData) (n x : NodeId) (q : Prepare) (p : Ident) →
    is_fit_prepare c n q ≡ true → CanEncode (vote_record x q p)
vote-encodes c n x q p h =
    let rises : is_rising q.parts ≡ true = grind (arith, h) in (
      grind (arith, nat_tests, h),
      grind (arith, nat_tests, h),
      rising q.parts rises,
      grind (arith, nat_tests, h),
      grind (arith, nat_tests, h),
    )

-- the record with which a yes is due is its own
pub due-of : (s : Given) (x : NodeId) (q : Prepare) (due : Due) (rec : Record) → IsDue s x q due rec → IsOf due rec
due-of s x q due rec d = rw d.is (sym d.tx, sym d.home, refl)

-- who is neither pending nor ended has no Prepared
pub not-prepared : (t : TxId) (r : List Record) →
    ended t r ≡ None → pending t r ≡ None → prepared_of t r ≡ None
not-prepared t [] e p = refl
not-prepared t (record'.Prepared u home parts sid q reads writes ∷ r) e p =
    grind (arith, nat_tests, e, p, not-prepared t r)
not-prepared t (record'.Ended u o ∷ r) e p = grind (arith, nat_tests, e, p, not-prepared t r)
not-prepared t (y ∷ r) e p = not-prepared t r e p

-- where each record fits, a yes is given again exactly where the transaction is pending
pub again-pending : (c : ClusterData) (n : NodeId) (t : TxId) (r : List Record) →
    all_fit c n r ≡ true → again_of t r ≡ pending t r
again-pending c n t r fit = go (ended t r) refl
  where
    go : (o : Option Outcome) → ended t r ≡ o → again_of t r ≡ pending t r
    go None is = rw is refl
    go (Some o) is = rw is (sym (ended-over c n t o r fit is))
