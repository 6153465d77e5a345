-- In the view behind a history no decided transaction is open besides, and each open one has its own number.
use Rattle.std.proofs.Common.{◌≡◌, sym, ap, subst, ◌∙◌, arith, Bool, true, false, List, Option, Some, None, inl, inr, refl}
use Rattle.std.proofs.lemmas.Bool.{cases_eq}
use Rattle.std.proofs.lemmas.Bool.Decides.{nat_tests}
use Rattle.std.specs.Prelude.{◌==◌, if◌then◌else◌}
use Rattle.score_base.specs.declared.ids.TxId.{TxId}
use Rattle.score_base.specs.declared.ids.NodeId.{NodeId}
use Rattle.script_lang.specs.Scripts.{ScriptData}
use Rattle.journal_words.specs.Journals.{Decision, undone, is_closed, later_decision}
use Rattle.journal_words.proofs.Later.{AreOver}
use Rattle.grid_model.specs.declared.acts.Act.{Act}
use Rattle.grid_model.specs.declared.stories.Story.{Story}
use Rattle.grid_model.specs.Documents.{DocumentData}
use Rattle.grid_model.specs.Nodes.{Node, node, script_of}
use Rattle.grid_model.specs.Stories.{is_open, phase_at, skipped_in, story}
use Rattle.grid_model.specs.Views.{Open, view, open_of, open_at}
use Rattle.grid_model.proofs.Undecided.{script-number, over-there}
use Rattle.grid_model.proofs.ViewSteps.{entry, entry-decided}
use Rattle.presumed_abort.specs.Views.{AreApart, OwnNumbers}

-- what is decided at its home is not open there
entry-closed :
    (s : ScriptData) (o : Option Story) (closed : Bool) (later : Option Decision) (y : Decision)
    → (if closed then None else later) ≡ Some y → entry s closed later o ≡ None
entry-closed s o true later y is = absurd (grind (arith, is))
entry-closed s o false None y is = absurd (grind (arith, is))
entry-closed s o false (Some z) y is = entry-decided s false z o

decided-apart :
    (n : NodeId) (h : Node) (t : TxId) (y : Decision) (so : Option ScriptData) (o : Option Story)
    → ((s : ScriptData) → so ≡ Some s → s.number ≡ t)
    → ((s : ScriptData) → so ≡ Some s → s.home ≡ n → AreOver (skipped_in o) s.number h.journal)
    → undone t h.journal ≡ Some y → open_at n h so o ≡ None
decided-apart n h t y None o number over decided = refl
decided-apart n h t y (Some s) o number over decided = elim (cases_eq s.home n) [
  | inl same ↦
      let own : undone s.number h.journal ≡ Some y = rw (number s refl) decided in
      let met : (s.home == n) ≡ true = grind (arith, nat_tests, same) in
      rw met
      (entry-closed s o (is_closed s.number h.journal) (later_decision (skipped_in o) s.number h.journal) y
      (sym (over s refl same).rest ∙ own))
  | inr other ↦ (let missed : (s.home == n) ≡ false = grind (arith, nat_tests) in rw missed refl)
]

pub view-apart : (d : DocumentData) (past : List Act) (n : NodeId) → AreApart (view d past n)
view-apart d past n = λ t y is.
    decided-apart n (node d past n) t y (script_of t d.scripts) (story d past t) (script-number t d.scripts)
    (λ s script home.
    subst
    (λ (m : NodeId). AreOver (skipped_in (story d past t)) s.number (node d past m).journal) home
    (over-there d past t s script))
    is

open-number :
    (n : NodeId) (h : Node) (t : TxId) (so : Option ScriptData) (o : Option Story)
    → ((s : ScriptData) → so ≡ Some s → s.number ≡ t)
    → (x : Open) → open_at n h so o ≡ Some x → x.script.number ≡ t
open-number n h t None o number x is = absurd (grind (arith, is))
open-number n h t (Some s) None number x is = absurd (go (s.home == n) is)
  where
    go : (b : Bool) → (let none' : Option Open = None in (if b then none' else None) ≡ Some x) → ⊥
    go true is = grind (arith, is)
    go false is = grind (arith, is)
open-number n h t (Some s) (Some z) number x is = go (s.home == n) (is_open (phase_at s (Some z) h)) is
  where
    go : (b b' : Bool) → (if b then (if b' then Some (open_of s z) else None) else None) ≡ Some x → x.script.number ≡ t
    go true true is =
        (let same : open_of s z ≡ x = grind (arith, is) in ap (λ y. y.script.number) (sym same) ∙ number s refl)
    go true false is = absurd (grind (arith, is))
    go false b' is = absurd (grind (arith, is))

pub view-numbers : (d : DocumentData) (past : List Act) (n : NodeId) → OwnNumbers (view d past n)
view-numbers d past n = λ t x is.
    open-number n (node d past n) t (script_of t d.scripts) (story d past t) (script-number t d.scripts) x is
