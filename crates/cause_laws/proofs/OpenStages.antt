-- Where a transaction that began and is not settled stands for its home; and which acts get no message.
use Rattle.cause_laws.proofs.Events.{Event, fit-before}
use Rattle.grid_laws.proofs.RowOuts.{pass-losses}
use Rattle.cause_laws.proofs.Outcomes.{IsKind, event-kind, failed, got_first, opened, plain}
use Rattle.cause_laws.proofs.OutsToEnds.{is_middle}
use Rattle.cause_laws.proofs.Settled.{is_settled, is_shut, unsettled-open}
use Rattle.grid_model.proofs.Undecided.{script-number}
use Rattle.grid_model.specs.Excuses.{has_got}
use Rattle.grid_model.specs.Documents.{DocumentData, IsOne, number_order, script_numbers}
use Rattle.grid_model.specs.Facts.{AllFit, GotIsFit, IsFitAt}
use Rattle.grid_model.specs.Fitness.{is_fit}
use Rattle.grid_model.specs.Histories.{after, sent, sent_at}
use Rattle.journal_words.specs.Journals.{Decision, decision, is_closed, undone}
use Rattle.grid_model.specs.Nodes.{Node, journal, node, script_of}
use Rattle.grid_model.specs.Rows.{answer}
use Rattle.grid_model.specs.Schedules.{kept, next_number, numbered}
use Rattle.grid_model.specs.Stories.{is_open, phase, phase_at, story, told}
use Rattle.script_runs.specs.Waits.{waiting}
use Rattle.grid_model.specs.Views.{acks_at, open_at, open_of, open_stage, stage, stage_by, view}
use Rattle.grid_model.specs.declared.acts.Act.TheVariants as act
use Rattle.grid_model.specs.declared.acts.Act.{Act}
use Rattle.grid_model.specs.declared.messages.Envelope.{Envelope}
use Rattle.grid_model.specs.declared.messages.Message.{Message}
use Rattle.grid_model.specs.declared.stories.Story.{Story}
use Rattle.score_base.specs.declared.ids.NodeId.{NodeId}
use Rattle.score_base.specs.declared.ids.TxId.{TxId}
use Rattle.score_base.specs.declared.records.Record.{Record}
use Rattle.script_lang.specs.Scripts.{ScriptData}
use Rattle.std.proofs.Common.{Bool, List, None, Option, Some, [], ap, arith, false, refl, subst, sym, true, ℕ, ◌||◌, ◌∙◌, ◌∷◌, ◌≡◌}
use Rattle.std.proofs.lemmas.Bool.Decides.{nat_tests}
use Rattle.std.proofs.lemmas.Bool.{and_parts}
use Rattle.std.specs.List.{list_all}
use Rattle.std.specs.Prelude.{if◌then◌else◌, is_some, ◌==◌}

unsettled-undecided : (d : DocumentData) (past : List Act) (s : ScriptData) → is_settled d past s ≡ false
    → decision s.number (journal d past s.home) ≡ None
unsettled-undecided d past s h = go (is_shut s (story d past s.number)) (decision s.number (journal d past s.home)) h
  where
    go : (b : Bool) (o : Option Decision) → (b || is_some o) ≡ false → o ≡ None
    go b None h = refl
    go true (Some y) h = cc
    go false (Some y) h = cc

undone-none : (t : TxId) (r : List Record) → decision t r ≡ None → undone t r ≡ None
undone-none t r e = go (is_closed t r)
  where
    go : (b : Bool) → (if b then None else decision t r) ≡ None
    go true = refl
    go false = e

stage-told : (n : NodeId) (h : Node) (s : ScriptData) (x : Story) (acks : List NodeId) (b c : Bool) → (s.home == n) ≡ b
    → is_open (phase_at s (Some x) h) ≡ c → b ≡ true → c ≡ true
    → stage_by None (if b then (if c then Some (open_of s x) else None) else None) acks
    ≡ open_stage (open_of s x) (waiting s.ops x.progress.values)
stage-told n h s x acks true true e f i j = refl
stage-told n h s x acks true false e f i j = cc
stage-told n h s x acks false c e f i j = cc

-- a transaction of home n that is open: it reads its first remote read without a value, or collects
pub stage-open : (d : DocumentData) (past : List Act) (n : NodeId) (t : TxId) (s : ScriptData) (x : Story)
    → script_of t d.scripts ≡ Some s → s.home ≡ n → story d past t ≡ Some x → is_settled d past s ≡ false
    → stage (view d past n) t ≡ open_stage (open_of s x) (waiting s.ops x.progress.values)
stage-open d past n t s x is home told h =
    let number : s.number ≡ t = script-number t d.scripts s is in
    let here : story d past s.number ≡ Some x = (let P : TxId → Type 0 = λ u. story d past u ≡ Some x in subst P (sym number) told) in
    let unended : is_open (phase d past s) ≡ true = unsettled-open d past s x here h in
    let P : Option Story → Type 0 = λ o. is_open (phase_at s o (node d past s.home)) ≡ true in
    let Q : NodeId → Type 0 = λ k. is_open (phase_at s (Some x) (node d past k)) ≡ true in
    let opens : is_open (phase_at s (Some x) (node d past n)) ≡ true = subst Q home (subst P here unended) in
    let R : TxId → Type 0 = λ u. decision u (journal d past s.home) ≡ None in
    let S : NodeId → Type 0 = λ k. decision t (journal d past k) ≡ None in
    let none : undone t (journal d past n) ≡ None = undone-none t (journal d past n) (subst S home (subst R number (unsettled-undecided d past s h))) in
    let same : (s.home == n) ≡ true = grind (arith, nat_tests, home) in
    ap (λ o. stage_by o (open_at n (node d past n) (script_of t d.scripts) (story d past t)) (acks_at n (node d past n) t (script_of t d.scripts) (story d past t))) none
    ∙ ap (λ o. stage_by None (open_at n (node d past n) o (story d past t)) (acks_at n (node d past n) t (script_of t d.scripts) (story d past t))) is
    ∙ ap (λ o. stage_by None (open_at n (node d past n) (Some s) o) (acks_at n (node d past n) t (script_of t d.scripts) (story d past t))) told
    ∙ stage-told n (node d past n) s x (acks_at n (node d past n) t (script_of t d.scripts) (story d past t)) (s.home == n) (is_open (phase_at s (Some x) (node d past n))) refl refl same opens

-- ---- acts that get no message

-- an act that gets no message
abbrev pub is_ungot : Act → Bool
is_ungot (act.Got m) = false
is_ungot a = true

pub middle-ungot : (acts : List Act) → list_all is_middle acts ≡ true → list_all is_ungot acts ≡ true
middle-ungot [] h = refl
middle-ungot (act.Got m ∷ acts) h = cc
middle-ungot (a ∷ acts) h = middle-ungot acts (and_parts (is_middle a) (list_all is_middle acts) h).1

-- an event gets no message, or one at its begin
pub data IsGetting (d : DocumentData) (past acts : List Act) : Type 0 where
  none_got : list_all is_ungot acts ≡ true → IsGetting d past acts
  one_got : (m : ℕ) (e : Envelope) (b : Bool) (rest : List Act) → sent_at m (sent past) ≡ Some e
      → (node d past e.to).up ≡ true
      → rest ≡ numbered (next_number past) e.to (kept b e.to (answer e.to (view d past e.to) e.from e.message))
      → acts ≡ act.Got m ∷ rest → list_all is_ungot rest ≡ true → is_fit e.to (view d past e.to) e.from e.message ≡ true
      → IsGetting d past acts

-- the message that an event gets was fit
pub fit-first : (d : DocumentData) (past : List Act) (m : ℕ) (e : Envelope) (rest : List Act)
    → sent_at m (sent past) ≡ Some e → AllFit d (after (act.Got m ∷ past) rest)
    → is_fit e.to (view d past e.to) e.from e.message ≡ true
fit-first d past m e rest is fit =
    let P : Option Envelope → Type 0 = λ o. IsFitAt d past o in
    subst P is (fit-before (GotIsFit d) (act.Got m ∷ past) rest fit).0

pub event-getting : (d : DocumentData) (past acts : List Act) → IsOne d → Event d past acts → IsGetting d past acts
event-getting d past acts one event = go (event-kind d past acts one event.before event.is)
  where
    go : IsKind d past acts → IsGetting d past acts
    go (plain h) = none_got (middle-ungot acts h)
    go (got_first m e b rest is up r k h) =
        let P : List Act → Type 0 = λ x. AllFit d (after past x) in
        one_got m e b rest is up r k (middle-ungot rest h) (fit-first d past m e rest is (subst P k event.fit))
    go (opened n f up k) = none_got (rw k (pass-losses is_ungot d (act.Up n f ∷ past) n (number_order (script_numbers d.scripts)) (λ t. refl)))
    go (failed n up k) = none_got (rw k refl)

-- ---- messages that were got

got-single : (p : NodeId → NodeId → Message → Bool) (past : List Act) (a : Act) → is_ungot a ≡ true
    → has_got p (a ∷ past) ≡ has_got p past
got-single p past (act.Got m) h = cc
got-single p past a h = refl

-- acts that get no message
pub got-ungot : (p : NodeId → NodeId → Message → Bool) (past acts : List Act) → list_all is_ungot acts ≡ true
    → has_got p (after past acts) ≡ has_got p past
got-ungot p past [] h = refl
got-ungot p past (a ∷ acts) h = let both = and_parts (is_ungot a) (list_all is_ungot acts) h in got-ungot p (a ∷ past) acts both.1 ∙ got-single p past a both.0
