-- An open transaction has ended nowhere, and nobody was told that it ended.
use Rattle.std.proofs.Common.{◌≡◌, ◌⊎◌, true, List, ◌∷◌, Option, Some, None, inl, inr, refl, subst}
use Rattle.score_base.specs.declared.ids.TxId.{TxId}
use Rattle.score_base.specs.declared.ids.NodeId.{NodeId}
use Rattle.score_base.specs.declared.ids.Ident.{Ident}
use Rattle.score_base.specs.declared.causes.Outcome.{Outcome}
use Rattle.score_base.specs.declared.causes.Outcome.TheVariants as outcome
use Rattle.script_lang.specs.Scripts.{ScriptData}
use Rattle.grid_model.specs.declared.acts.Act.{Act}
use Rattle.grid_model.specs.declared.messages.Message.{Message}
use Rattle.grid_model.specs.declared.messages.Message.TheVariants as message
use Rattle.grid_model.specs.Documents.{DocumentData}
use Rattle.journal_words.specs.Journals.{decision, ended}
use Rattle.grid_model.specs.Nodes.{journal, script_of}
use Rattle.grid_model.specs.Stories.{is_open, phase}
use Rattle.grid_model.specs.Facts.{IsDecided, is_given_up}
use Rattle.journal_words.proofs.Decisions.{has_decided-says}
use Rattle.grid_model.proofs.Undecided.{script-number}
use Rattle.grid_laws.proofs.MessagesBacked.{commit-decided, is_decided-more}
use Rattle.grid_laws.proofs.Causes.{AllDue}
use Rattle.grid_laws.proofs.DecisionsCount.{open-decided-never}
use Rattle.grid_laws.proofs.AbortsFinal.{given-more}
use Rattle.grid_laws.proofs.EndsMeant.{abort-given-up}
use Rattle.grid_laws.proofs.OpenNotGivenUp.{open-not-given-up}
use Rattle.grid_laws.proofs.DecidedNotGivenUp.{home-at}

-- what is open is not decided
pub open-not-decided : (d : DocumentData) (past : List Act) → AllDue d past → (s : ScriptData) (t : TxId)
    → script_of t d.scripts ≡ Some s → is_open (phase d past s) ≡ true → (f : Ident) → IsDecided d past t f → ⊥
open-not-decided d past all s t is e f w =
    let at : s.home ≡ w.0 = home-at d t w.0 s is w.1 in
    let says = has_decided-says t f (journal d past w.0) w.2 in
    let P : TxId → Type 0 = λ u. decision u (journal d past s.home) ≡ None in
    let Q : NodeId → Type 0 = λ k. decision t (journal d past k) ≡ None in
    let none : decision t (journal d past w.0) ≡ None = subst Q at (subst P (script-number t d.scripts s is) (open-decided-never d past all s e)) in
    let some : decision t (journal d past w.0) ≡ Some says.0 = says.1 in
    cc

-- it has ended nowhere
pub open-not-ended : (d : DocumentData) (past : List Act) → AllDue d past → (s : ScriptData) (t : TxId)
    → script_of t d.scripts ≡ Some s → is_open (phase d past s) ≡ true → (n : NodeId)
    → ended t (journal d past n) ≡ None
open-not-ended d past all s t is e n = go (ended t (journal d past n)) refl
  where
    go : (o : Option Outcome) → ended t (journal d past n) ≡ o → o ≡ None
    go None i = refl
    go (Some (outcome.Commit f)) i = absurd (open-not-decided d past all s t is e f (commit-decided d past all n t f i))
    go (Some outcome.Abort) i = absurd (open-not-given-up d past all s t is e (abort-given-up d past all n t i))

-- ---- what was told of it

-- t was given up or decided
abbrev pub IsSettled : DocumentData → List Act → TxId → Type 0
IsSettled d past t = (is_given_up t past ≡ true) ⊎ ((f : Ident) × IsDecided d past t f)

abbrev TellSettled : DocumentData → List Act → Message → Type 0
TellSettled d past (message.Tell t outcome.Abort) = IsSettled d past t
TellSettled d past said = Unit {0}

settled-more : (d : DocumentData) (past : List Act) (a : Act) (t : TxId) → IsSettled d past t → IsSettled d (a ∷ past) t
settled-more d past a t h = elim h [ inl g ↦ inl (given-more a past t g) | inr w ↦ inr (w.0, is_decided-more d past a t w.0 w.1) ]
