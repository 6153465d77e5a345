-- What does a phase say of the story and of the decision: that of a committed transaction, and of an answered one?
use Rattle.std.proofs.Common.{◌≡◌, ℕ, Bool, true, false, List, Option, Some, None, refl, sym, ap, subst, ◌∙◌}
use Rattle.std.proofs.lemmas.Option.{none-some, same_Some}
use Rattle.std.specs.Prelude.{if◌then◌else◌, not, ◌&&◌}
use Rattle.score_base.specs.declared.ids.Ident.{Ident}
use Rattle.score_base.specs.declared.records.Record.{Record}
use Rattle.script_lang.specs.declared.scripts.Op.{Op}
use Rattle.script_lang.specs.Reads.{is_update}
use Rattle.script_lang.specs.Scripts.{ScriptData}
use Rattle.journal_words.specs.Journals.{Decision, decision, has_decided, is_closed, later_decision}
use Rattle.journal_words.proofs.Decisions.{decision-has}
use Rattle.journal_words.proofs.Later.{later-all}
use Rattle.script_runs.specs.Waits.{waiting}
use Rattle.grid_model.specs.declared.acts.Act.{Act}
use Rattle.grid_model.specs.declared.stories.Story.{Story}
use Rattle.grid_model.specs.Documents.{DocumentData}
use Rattle.grid_model.specs.Facts.{IsDecided}
use Rattle.grid_model.specs.Nodes.{journal, script_of}
use Rattle.grid_model.specs.Sessions.{CommittedAt, closed, decided}
use Rattle.grid_model.specs.Stories.{Aborted, Answered, Closed, Decided, Lost, Phase, decided_phase, open_phase, phase, phase_by, skipped_in, story, undecided_phase}
use Rattle.grid_laws.proofs.Causes.{AllDue}
use Rattle.grid_laws.proofs.DecisionsCount.{all-count}
use Rattle.grid_laws.proofs.DueAnswers.{home-is}

-- ---- the phase by the last decision

-- in a run each decision counts
counts-all : (d : DocumentData) (past : List Act) → AllDue d past → (s : ScriptData)
    → later_decision (skipped_in (story d past s.number)) s.number (journal d past s.home)
    ≡ decision s.number (journal d past s.home)
counts-all d past all s =
    ap (λ k. later_decision k s.number (journal d past s.home)) (all-count d past all s.number)
    ∙ later-all s.number (journal d past s.home)

-- the phase by a story and the records of the home
abbrev pub phase_with : ScriptData → Option Story → List Record → Phase
phase_with s o r = phase_by s.ops o (is_closed s.number r) (decision s.number r)

pub phase-by : (d : DocumentData) (past : List Act) → AllDue d past → (s : ScriptData)
    → phase d past s ≡ phase_with s (story d past s.number) (journal d past s.home)
phase-by d past all s =
    ap (phase_by s.ops (story d past s.number) (is_closed s.number (journal d past s.home))) (counts-all d past all s)

-- ---- committed

-- the final identifier that a phase names
abbrev final_in : Phase → Option Ident
final_in (Closed f) = Some f
final_in (Decided y) = Some y.final
final_in p = None

-- a decision with this final identifier
abbrev pub HasFinal : Option Decision → Ident → Type 0
HasFinal o f = (y : Decision) × (o ≡ Some y) × (y.final ≡ f)

open-final : (w : Option ℕ) → final_in (open_phase w) ≡ None
open-final None = refl
open-final (Some j) = refl

undecided-final : (ops : List Op) (x : Story) → final_in (undecided_phase ops x) ≡ None
undecided-final ops x = go x.aborted (x.finished && not (is_update ops))
  where
    go : (a b : Bool)
        → final_in (if a then Aborted else (if b then Answered else open_phase (waiting ops x.progress.values))) ≡ None
    go true b = refl
    go false true = refl
    go false false = open-final (waiting ops x.progress.values)

decided-final : (ops : List Op) (x : Story) (c : Bool) (o : Option Decision) (f : Ident)
    → final_in (decided_phase ops x c o) ≡ Some f → HasFinal o f
decided-final ops x c None f e = absurd (none-some f (sym (undecided-final ops x) ∙ e))
decided-final ops x true (Some y) f e = (y, refl, same_Some y.final f e)
decided-final ops x false (Some y) f e = (y, refl, same_Some y.final f e)

phase-final : (ops : List Op) (o : Option Story) (c : Bool) (w : Option Decision) (f : Ident)
    → final_in (phase_by ops o c w) ≡ Some f → HasFinal w f
phase-final ops None c w f e = absurd (none-some f e)
phase-final ops (Some x) c w f e = go x.lost e
  where
    go : (b : Bool) → final_in (if b then Lost else decided_phase ops x c w) ≡ Some f → HasFinal w f
    go true i = absurd (none-some f i)
    go false i = decided-final ops x c w f i

committed-final : (d : DocumentData) (past : List Act) (s : ScriptData) (f : Ident) → CommittedAt d past s f
    → final_in (phase d past s) ≡ Some f
committed-final d past s f (closed e) = ap final_in e
committed-final d past s f (decided ns e) = ap final_in e

-- a committed transaction is decided with its final identifier
pub committed-decided : (d : DocumentData) (past : List Act) (s : ScriptData) (f : Ident) → AllDue d past
    → script_of s.number d.scripts ≡ Some s → CommittedAt d past s f → IsDecided d past s.number f
committed-decided d past s f all is c =
    let r = journal d past s.home in
    let final : final_in (phase_with s (story d past s.number) r) ≡ Some f =
    ap final_in (sym (phase-by d past all s)) ∙ committed-final d past s f c in
    let w : HasFinal (decision s.number r) f =
    phase-final s.ops (story d past s.number) (is_closed s.number r) (decision s.number r) f final in
    let Q : Ident → Type 0 = λ i. has_decided s.number i r ≡ true in
    (s.home, home-is d s.number s.home s is refl, subst Q w.2 (decision-has s.number w.0 r w.1))

-- ---- answered

-- an answered transaction was not lost, aborted or decided, and it is a read-only one whose client was told
pub record Answers (ops : List Op) (x : Story) (o : Option Decision) : Type 0 where
  pub kept : x.lost ≡ false
  pub undecided : o ≡ None
  pub going : x.aborted ≡ false
  pub told : (x.finished && not (is_update ops)) ≡ true

open-unanswered : (w : Option ℕ) → open_phase w ≡ Answered → ⊥
open-unanswered None e = cc
open-unanswered (Some j) e = cc

decided-answers : (ops : List Op) (x : Story) (c : Bool) (o : Option Decision) → x.lost ≡ false
    → decided_phase ops x c o ≡ Answered → Answers ops x o
decided-answers ops x true (Some y) l e = cc
decided-answers ops x false (Some y) l e = cc
decided-answers ops x c None l e = go x.aborted (x.finished && not (is_update ops)) refl refl e
  where
    go : (a b : Bool) → x.aborted ≡ a → (x.finished && not (is_update ops)) ≡ b
        → (if a then Aborted else (if b then Answered else open_phase (waiting ops x.progress.values))) ≡ Answered
        → Answers ops x None
    go true b i j e = cc
    go false true i j e = record { kept = l; undecided = refl; going = i; told = j }
    go false false i j e = absurd (open-unanswered (waiting ops x.progress.values) e)

phase-answers : (ops : List Op) (x : Story) (c : Bool) (o : Option Decision) → phase_by ops (Some x) c o ≡ Answered
    → Answers ops x o
phase-answers ops x c o e = go x.lost refl e
  where
    go : (b : Bool) → x.lost ≡ b → (if b then Lost else decided_phase ops x c o) ≡ Answered → Answers ops x o
    go true l i = cc
    go false l i = decided-answers ops x c o l i

-- the other way round
pub answers-phase : (ops : List Op) (x : Story) (c : Bool) (o : Option Decision) → Answers ops x o
    → phase_by ops (Some x) c o ≡ Answered
answers-phase ops x c o a =
    let l = a.kept in
    let u = a.undecided in
    let g = a.going in
    let t = a.told in
    rw (u, l) (rw (g, t) refl)

-- what an answered phase says
pub answered-story : (d : DocumentData) (past : List Act) (s : ScriptData) → AllDue d past → phase d past s ≡ Answered
    → (x : Story) × (story d past s.number ≡ Some x) × Answers s.ops x (decision s.number (journal d past s.home))
answered-story d past s all e = go (story d past s.number) refl (sym (phase-by d past all s) ∙ e)
  where
    r : List Record
    r = journal d past s.home

    go : (o : Option Story) → story d past s.number ≡ o → phase_with s o r ≡ Answered
        → (x : Story) × (story d past s.number ≡ Some x) × Answers s.ops x (decision s.number r)
    go None is e = cc
    go (Some x) is e = (x, is, phase-answers s.ops x (is_closed s.number r) (decision s.number r) e)
