-- A committed transaction is committed wherever it ended.
use Rattle.std.proofs.Common.{◌≡◌, Bool, true, false, List, Some, refl, ap}
use Rattle.score_base.specs.declared.ids.TxId.{TxId}
use Rattle.score_base.specs.declared.ids.NodeId.{NodeId}
use Rattle.score_base.specs.declared.ids.Ident.{Ident}
use Rattle.score_base.specs.declared.causes.Outcome.{Outcome}
use Rattle.score_base.specs.declared.causes.Outcome.TheVariants as outcome
use Rattle.grid_model.specs.declared.acts.Act.{Act}
use Rattle.grid_model.specs.Documents.{DocumentData}
use Rattle.journal_words.specs.Journals.{ended}
use Rattle.grid_model.specs.Nodes.{journal}
use Rattle.grid_model.specs.Copies.{order}
use Rattle.grid_model.specs.Facts.{IsDecided, is_given_up}
use Rattle.grid_laws.proofs.MessagesBacked.{commit-decided}
use Rattle.grid_laws.proofs.DecidedNotGivenUp.{decided-commits, given-up-undecided}
use Rattle.grid_laws.proofs.DecisionsOnce.{decided-same}
use Rattle.grid_model.specs.Claims.{AtomicOf, IsFirm}
use Rattle.copy_laws.proofs.Footing.{Rests}
use Rattle.copy_laws.proofs.OrderMembers.{decided-order}
use Rattle.copy_laws.proofs.AllTaken.{decided-member}
use Rattle.copy_laws.proofs.KeptCommits.{member-split}

firm : (d : DocumentData) (past : List Act) (f : Ident) (t : TxId) → Rests d past → IsDecided d past t f
    → IsFirm d past f t
firm d past f t r dec = record { kept = never (is_given_up t past) refl; ends = λ n o e. commits n o e }
  where
    never : (b : Bool) → is_given_up t past ≡ b → b ≡ false
    never true e = absurd (given-up-undecided d past r.due t f e dec)
    never false e = refl

    commits : (n : NodeId) (o : Outcome) → ended t (journal d past n) ≡ Some o → o ≡ outcome.Commit f
    commits n outcome.Abort e = absurd (decided-commits d past r.due n t f dec e)
    commits n (outcome.Commit g) e = ap (λ (i : Ident). outcome.Commit i) (decided-same d past r.due t g f (commit-decided d past r.due n t g e) dec)

pub atomic-past : (d : DocumentData) (past : List Act) → Rests d past → AtomicOf d past
atomic-past d past r =
    record {
      firm = λ f t m. firm d past f t r (decided-member d past f t m.later m.before r m.there).decided;
      member = λ n f t e. (let w = member-split f t (order d past) (decided-order d past t f r.one (commit-decided d past r.due n t f e)) in record { later = w.0; before = w.1; there = w.2 });
    }
