-- A decision that stands open at a node is of a transaction of that node that began and was not lost.
use Rattle.std.proofs.Common.{◌≡◌, Bool, true, false, ◌&&◌, ◌||◌, IsTrue, List, Option, Some, None, is_none, refl, subst}
use Rattle.score_base.specs.declared.ids.TxId.{TxId}
use Rattle.score_base.specs.declared.ids.NodeId.{NodeId}
use Rattle.journal_words.specs.Journals.{Decision, has_decided, undone}
use Rattle.journal_words.proofs.Decisions.{decision-has}
use Rattle.grid_model.specs.declared.acts.Act.{Act}
use Rattle.grid_model.specs.declared.stories.Story.{Story}
use Rattle.grid_model.specs.Documents.{DocumentData}
use Rattle.grid_model.specs.Nodes.{is_home, journal}
use Rattle.grid_model.specs.Stories.{story}
use Rattle.grid_model.specs.NextViews.{OwnDecisions, is_running}
use Rattle.grid_laws.proofs.Causes.{AllDue}
use Rattle.grid_laws.proofs.NodesFitActs.{nodes-fit, undone-decision}
use Rattle.grid_laws.proofs.DecisionsRest.{decided-say, decision-stands}
use Rattle.grid_laws.proofs.AbortsFinal.{Meant, flags-meant}
use Rattle.grid_laws.proofs.DecidedNotGivenUp.{given-up-undecided}

own-decision : (d : DocumentData) (past : List Act) (n : NodeId) (t : TxId) (y : Decision) → AllDue d past
    → undone t (journal d past n) ≡ Some y → IsTrue (is_home d t n && is_running (story d past t))
own-decision d past n t y due is =
    let r = journal d past n in
    let has : has_decided t y.final r ≡ true = decision-has t y r (undone-decision t y r is) in
    let stands = decision-stands d past n t y.final r (nodes-fit d past due n).homes (decided-say d past due n).journal has in
    let x : Story = stands.1.full.story in
    let told : story d past t ≡ Some x = stands.1.full.at.story in
    let meant : Meant past t (Some x) = subst (λ o. Meant past t o) told (flags-meant d past t) in
    rw (stands.0, told, kept x.lost x.lost refl (λ e. given-up-undecided d past due t y.final (meant.0 e) (n, stands.0, has))) refl
  where
    kept : (b lost : Bool) → lost ≡ b → (b ≡ true → ⊥) → lost ≡ false
    kept true lost e never = absurd (never refl)
    kept false lost e never = e

pub own-decisions : (d : DocumentData) (past : List Act) → AllDue d past → (n : NodeId) → OwnDecisions d past n
own-decisions d past due n t = go (undone t (journal d past n)) refl
  where
    go : (o : Option Decision) → undone t (journal d past n) ≡ o
        → IsTrue (is_none (undone t (journal d past n)) || (is_home d t n && is_running (story d past t)))
    go None is = rw is refl
    go (Some y) is = rw is (own-decision d past n t y due is)
