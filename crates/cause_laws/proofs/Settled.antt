-- A transaction that began, and is neither reading nor collecting, stays so.
use Rattle.grid_laws.proofs.DueActs.{due-before}
use Rattle.journal_words.proofs.Decisions.{decision-some}
use Rattle.cause_laws.proofs.StoryTests.{KeepsHeard, began-kept, else-kept, got-kept, if-kept}
use Rattle.grid_laws.proofs.Causes.{AllDue, IsDue}
use Rattle.grid_model.proofs.Growing.{journal-more}
use Rattle.grid_model.specs.Documents.{DocumentData}
use Rattle.grid_model.specs.Histories.{after, sent, sent_at}
use Rattle.journal_words.specs.Journals.{Decision, decision, is_closed, later_decision}
use Rattle.journal_words.proofs.Later.{later-all, undecided-later}
use Rattle.grid_laws.proofs.DecisionsCount.{all-count}
use Rattle.grid_model.specs.Nodes.{is_home, journal, script_of, node}
use Rattle.grid_model.specs.Stories.{Aborted, Answered, Lost, Phase, asked, begun_in, decided_phase, skipped_in, is_open, open_phase, phase, phase_by, story, told, undecided_phase}
use Rattle.script_runs.specs.Waits.{waiting}
use Rattle.grid_model.specs.declared.acts.Act.TheVariants as act
use Rattle.grid_model.specs.declared.acts.Act.{Act}
use Rattle.grid_model.specs.declared.messages.Message.TheVariants as message
use Rattle.grid_model.specs.declared.messages.Message.{Message}
use Rattle.grid_model.specs.declared.stories.Story.{Story}
use Rattle.score_base.specs.declared.ids.TxId.{TxId}
use Rattle.score_base.specs.declared.records.Record.{Record}
use Rattle.script_lang.specs.Reads.{is_update}
use Rattle.script_lang.specs.Scripts.{ScriptData}
use Rattle.script_lang.specs.declared.scripts.Op.{Op}
use Rattle.std.proofs.Common.{Bool, List, None, Option, Some, [], ap, false, inl, inr, refl, subst, sym, true, ℕ, ◌||◌, ◌∙◌, ◌∷◌, ◌≡◌}
use Rattle.std.proofs.lemmas.Bool.{or_cases, or_left, or_right}
use Rattle.std.specs.Prelude.{if◌then◌else◌, is_none, is_some, not, ◌&&◌, ◌==◌}

-- it was lost, aborted or answered
abbrev pub is_shut : ScriptData → Option Story → Bool
is_shut s None = false
is_shut s (Some x) = x.lost || (x.aborted || (x.finished && not (is_update s.ops)))

-- or decided
abbrev pub is_settled : DocumentData → List Act → ScriptData → Bool
is_settled d past s = is_shut s (story d past s.number) || is_some (decision s.number (journal d past s.home))

-- ---- the phase

open-if : (b : Bool) (p q : Phase) → is_open p ≡ false → is_open (if b then p else q) ≡ (not b && is_open q)
open-if true p q h = h
open-if false p q h = refl

open-waits : (w : Option ℕ) → is_open (open_phase w) ≡ true
open-waits None = refl
open-waits (Some j) = refl

open-undecided : (ops : List Op) (x : Story)
    → is_open (undecided_phase ops x) ≡ (not x.aborted && (not (x.finished && not (is_update ops)) && true))
open-undecided ops x =
    open-if x.aborted Aborted (if x.finished && not (is_update ops) then Answered else open_phase (waiting ops x.progress.values)) refl
    ∙ ap (λ b. not x.aborted && b) (open-if (x.finished && not (is_update ops)) Answered (open_phase (waiting ops x.progress.values)) refl ∙ ap (λ b. not (x.finished && not (is_update ops)) && b) (open-waits (waiting ops x.progress.values)))

open-decided : (ops : List Op) (x : Story) (closed : Bool) (o : Option Decision)
    → is_open (decided_phase ops x closed o)
    ≡ (is_none o && (not x.aborted && (not (x.finished && not (is_update ops)) && true)))
open-decided ops x closed None = open-undecided ops x
open-decided ops x true (Some y) = refl
open-decided ops x false (Some y) = refl

open-begun : (s : ScriptData) (x : Story) (closed : Bool) (o : Option Decision)
    → is_open (phase_by s.ops (Some x) closed o) ≡ not (is_shut s (Some x) || is_some o)
open-begun s x closed o = open-if x.lost Lost (decided_phase s.ops x closed o) refl ∙ ap (λ b. not x.lost && b) (open-decided s.ops x closed o) ∙ same x.lost x.aborted (x.finished && not (is_update s.ops)) o
  where
    same : (l a f : Bool) (o : Option Decision)
        → (not l && (is_none o && (not a && (not f && true)))) ≡ not ((l || (a || f)) || is_some o)
    same true a f o = refl
    same false true f None = refl
    same false true f (Some y) = refl
    same false false true None = refl
    same false false true (Some y) = refl
    same false false false None = refl
    same false false false (Some y) = refl

-- ---- it stays so

heard-shut : (s : ScriptData) → KeepsHeard (is_shut s)
heard-shut s = record { vote = λ n q y i. i; ack = λ n y i. i }

asked-shut : (s : ScriptData) (d : DocumentData) (t : TxId) (said : Message) (o : Option Story) → is_shut s o ≡ true
    → is_shut s (asked d t said o) ≡ true
asked-shut s d t (message.ReadReq q) o k = if-kept (is_shut s) (q.t == t) _ o (λ y i. i) k
asked-shut s d t said o k = k

pub shut-more : (s : ScriptData) (d : DocumentData) (past : List Act) (a : Act) (t : TxId) → IsDue d past a
    → is_shut s (story d past t) ≡ true → is_shut s (story d (a ∷ past) t) ≡ true
shut-more s d past (act.Began u n sid0) t due k = else-kept (is_shut s) (u == t) (Some (begun_in d (node d past) t sid0)) (story d past t) (λ e. began-kept (is_shut s) d past u t n sid0 refl due k e) k
shut-more s d past (act.Sent m n y said) t due k = asked-shut s d t said (story d past t) k
shut-more s d past (act.Got m) t due k = got-kept (is_shut s) d past (script_of t d.scripts) (sent_at m (sent past)) (story d past t) (heard-shut s) k
shut-more s d past (act.Taken u op sid v) t due k = if-kept (is_shut s) (u == t) _ (story d past t) (λ y i. i) k
shut-more s d past (act.Finished u) t due k = if-kept (is_shut s) (u == t) _ (story d past t) (λ y i. finishes y.lost y.aborted y.finished (is_update s.ops) i) k
  where
    finishes : (l a f w : Bool) → (l || (a || (f && not w))) ≡ true → (l || (a || (true && not w))) ≡ true
    finishes true a f w h = refl
    finishes false true f w h = refl
    finishes false false true w h = h
    finishes false false false w h = cc
shut-more s d past (act.Aborted u n why) t due k = if-kept (is_shut s) (u == t) _ (story d past t) (λ y i. aborts y.lost) k
  where
    aborts : (l : Bool) → (l || true) ≡ true
    aborts true = refl
    aborts false = refl
shut-more s d past (act.Lost u) t due k = if-kept (is_shut s) (u == t) _ (story d past t) (λ y i. refl) k
shut-more s d past (act.Down n h) t due k = if-kept (is_shut s) (is_home d t n) _ (story d past t) (λ y i. i) k
shut-more s d past a t due k = k

pub settled-more : (d : DocumentData) (past : List Act) (a : Act) (s : ScriptData) → IsDue d past a
    → is_settled d past s ≡ true → is_settled d (a ∷ past) s ≡ true
settled-more d past a s due h = elim (or_cases (is_shut s (story d past s.number)) (is_some (decision s.number (journal d past s.home))) h) [
  | inl shut ↦ or_left (is_shut s (story d (a ∷ past) s.number)) (is_some (decision s.number (journal d (a ∷ past) s.home))) (shut-more s d past a s.number due shut)
  | inr some ↦ or_right (is_shut s (story d (a ∷ past) s.number)) (is_some (decision s.number (journal d (a ∷ past) s.home))) (journal-more (λ r. is_some (decision s.number r) ≡ true) (λ x r k. decision-some s.number x r k) d past a s.home some)
]

-- over more acts
pub settled-later : (d : DocumentData) (past acts : List Act) (s : ScriptData) → AllDue d (after past acts)
    → is_settled d past s ≡ true → is_settled d (after past acts) s ≡ true
settled-later d past [] s due h = h
settled-later d past (a ∷ acts) s due h = settled-later d (a ∷ past) acts s due (settled-more d past a s (due-before d (a ∷ past) acts due).0 h)

-- what is settled is not open, and what began and is not settled is open
pub settled-closed : (d : DocumentData) (past : List Act) (s : ScriptData) → AllDue d past → is_settled d past s ≡ true
    → is_open (phase d past s) ≡ false
settled-closed d past s due h = go (story d past s.number) refl h
  where
    r : List Record
    r = journal d past s.home

    go : (o : Option Story) → story d past s.number ≡ o → (is_shut s o || is_some (decision s.number r)) ≡ true
        → is_open (phase_by s.ops o (is_closed s.number r) (later_decision (skipped_in o) s.number r)) ≡ false
    go None e h = refl
    go (Some x) e h =
        let counts : x.skipped ≡ 0 = subst (λ o. skipped_in o ≡ 0) e (all-count d past due s.number) in
        rw (counts, later-all s.number r) (open-begun s x (is_closed s.number r) (decision s.number r) ∙ rw h refl)

-- what is not settled is neither shut nor decided
pub unsettled-undecided : (b : Bool) (o : Option Decision) → (b || is_some o) ≡ false → o ≡ None
unsettled-undecided true o i = cc
unsettled-undecided false None i = refl
unsettled-undecided false (Some y) i = cc

pub unsettled-unshut : (b : Bool) (o : Option Decision) → (b || is_some o) ≡ false → (b || false) ≡ false
unsettled-unshut true o i = cc
unsettled-unshut false o i = refl

pub unsettled-open : (d : DocumentData) (past : List Act) (s : ScriptData) (x : Story) → story d past s.number ≡ Some x
    → is_settled d past s ≡ false → is_open (phase d past s) ≡ true
unsettled-open d past s x told h =
    let r : List Record = journal d past s.home in
    let P : Option Story → Type 0 = λ o. is_open (phase_by s.ops o (is_closed s.number r) (later_decision (skipped_in o) s.number r)) ≡ true in
    let Q : Option Story → Type 0 = λ o. (is_shut s o || is_some (decision s.number r)) ≡ false in
    let none : (is_shut s (Some x) || is_some (decision s.number r)) ≡ false = subst Q told h in
    let later : later_decision x.skipped s.number r ≡ None = undecided-later x.skipped s.number r (unsettled-undecided (is_shut s (Some x)) (decision s.number r) none) in
    subst P (sym told) (rw later (open-begun s x (is_closed s.number r) None ∙ rw (unsettled-unshut (is_shut s (Some x)) (decision s.number r) none) refl))
