-- What a transaction leaves to its session at the end it left when it was settled.
use Rattle.std.proofs.Common.{◌≡◌, Bool, true, false, List, Option, Some, None, inl, inr, refl, ap, sym, subst, ◌∙◌}
use Rattle.std.proofs.lemmas.Bool.{and_parts, both_ways, false_from_ne_true, not-true, or_cases, or_from, or_left, or_parts}
use Rattle.std.proofs.lemmas.Option.{none-some, same_Some}
use Rattle.std.specs.Prelude.{is_some, not, ◌&&◌, ◌||◌}
use Rattle.score_base.specs.declared.ids.Ident.{Ident}
use Rattle.score_base.specs.declared.ids.NodeId.{NodeId}
use Rattle.script_lang.specs.Reads.{is_update}
use Rattle.script_lang.specs.declared.scripts.Op.{Op}
use Rattle.script_lang.specs.Scripts.{ScriptData}
use Rattle.journal_words.specs.Journals.{Decision, decision, has_decided, is_closed}
use Rattle.journal_words.proofs.Decisions.{decision-has, has_decided-says}
use Rattle.journal_words.proofs.Stands.{has_prepared-says}
use Rattle.grid_model.specs.declared.acts.Act.{Act}
use Rattle.grid_model.specs.declared.stories.Story.{Story}
use Rattle.grid_model.specs.Copies.{snapshot, snapshot_in}
use Rattle.grid_model.specs.Documents.{DocumentData}
use Rattle.grid_model.specs.Facts.{IsDecided}
use Rattle.grid_model.specs.Nodes.{journal, script_of}
use Rattle.grid_model.specs.Sessions.{AnsweredAt, left_by, left_on}
use Rattle.grid_model.specs.States.{state_of}
use Rattle.grid_model.specs.Stories.{phase_by, story}
use Rattle.grid_laws.proofs.AbortsFinal.{Meant, flags-meant}
use Rattle.grid_laws.proofs.Causes.{AllDue}
use Rattle.grid_laws.proofs.DecidedNotGivenUp.{given-up-undecided}
use Rattle.grid_laws.proofs.DecisionsOnce.{decided-same}
use Rattle.grid_laws.proofs.DecisionsRest.{decisions-rest}
use Rattle.grid_laws.proofs.DueAnswers.{home-is}
use Rattle.grid_laws.proofs.FullStories.{full-snapshot}
use Rattle.grid_laws.proofs.NodesFit.{home-one}
use Rattle.grid_laws.proofs.NodesFitActs.{nodes-fit}
use Rattle.grid_laws.proofs.OpenNotGivenUp.{IsFlagged}
use Rattle.grid_laws.proofs.PreparesSay.{first-prepared, prepared-say}
use Rattle.cause_laws.proofs.Settled.{is_settled, is_shut}
use Rattle.session_laws.proofs.FinishedTold.{reader-full}
use Rattle.session_laws.proofs.LaterPasts.{Follows, decided-later, flagged-later, follows-due, full-later, shut-later}
use Rattle.session_laws.proofs.PhasesSay.{Answers, answered-story, answers-phase, phase-by, phase_with}

-- ---- what is decided

-- it is an update
pub decided-update : (d : DocumentData) (past : List Act) (s : ScriptData) (f : Ident) → AllDue d past
    → script_of s.number d.scripts ≡ Some s → IsDecided d past s.number f → is_update s.ops ≡ true
decided-update d past s f all is w =
    let rests = (decisions-rest d past all false w.0 s.number f w.2).1 in
    let n = rests.reached.0 in
    let r = journal d past n in
    let p = has_prepared-says d.cluster n s.number f r (nodes-fit d past all n).fits rests.reached.2 in
    let first = first-prepared d past n s.number p.0 r (prepared-say d past all n).journal p.1 in
    let at : script_of s.number d.scripts ≡ Some first.says.script =
    ap (λ t. script_of t d.scripts) first.t ∙ first.says.full.at.script in
    let P : ScriptData → Type 0 = λ z. is_update z.ops ≡ true in
    subst P (same_Some first.says.script s (sym at ∙ is)) first.says.update

-- it was not lost, aborted or answered
shut-undecided : (d : DocumentData) (past : List Act) (s : ScriptData) (f : Ident) → AllDue d past
    → script_of s.number d.scripts ≡ Some s → is_shut s (story d past s.number) ≡ true → IsDecided d past s.number f
    → ⊥
shut-undecided d past s f all is shut w = go (story d past s.number) (flags-meant d past s.number) shut
  where
    go : (o : Option Story) → Meant past s.number o → is_shut s o ≡ true → ⊥
    go None meant e = cc
    go (Some x) meant e = elim (or_cases x.lost (x.aborted || (x.finished && not (is_update s.ops))) e) [
      | inl lost ↦ given-up-undecided d past all s.number f (meant.0 lost) w
      | inr rest ↦ elim (or_cases x.aborted (x.finished && not (is_update s.ops)) rest) [
        | inl aborted ↦ given-up-undecided d past all s.number f (meant.1 aborted) w
        | inr told ↦
            let reads = not-true (is_update s.ops) (and_parts x.finished (not (is_update s.ops)) told).1 in
            both_ways (is_update s.ops) reads (decided-update d past s f all is w)
      ]
    ]

-- a decision of a script stands at its home
decision-is : (d : DocumentData) (past : List Act) (s : ScriptData) (y : Decision)
    → script_of s.number d.scripts ≡ Some s → decision s.number (journal d past s.home) ≡ Some y
    → IsDecided d past s.number y.final
decision-is d past s y is e =
    (s.home, home-is d s.number s.home s is refl, decision-has s.number y (journal d past s.home) e)

-- ---- committed

-- what is left, by the story and the decision
left-by : (d : DocumentData) (past : List Act) (s : ScriptData) (x : Story) → AllDue d past
    → story d past s.number ≡ Some x
    → left_on (state_of d past) s ≡ left_by (phase_with s (Some x) (journal d past s.home)) (Some x)
left-by d past s x all told =
    ap (λ p. left_by p (story d past s.number)) (phase-by d past all s)
    ∙ ap (λ o. left_by (phase_with s o (journal d past s.home)) o) told

left-final : (ops : List Op) (x : Story) (c : Bool) (o : Option Decision) (y : Decision) → x.lost ≡ false → o ≡ Some y
    → left_by (phase_by ops (Some x) c o) (Some x) ≡ y.final
left-final ops x true o y l e = rw (e, l) refl
left-final ops x false o y l e = rw (e, l) refl

-- what is decided leaves its final identifier
decided-left : (d : DocumentData) (past : List Act) (s : ScriptData) (x : Story) (y : Decision) → AllDue d past
    → script_of s.number d.scripts ≡ Some s → story d past s.number ≡ Some x
    → decision s.number (journal d past s.home) ≡ Some y → left_on (state_of d past) s ≡ y.final
decided-left d past s x y all is told e =
    let r = journal d past s.home in
    let P : Option Story → Type 0 = λ o. is_shut s o ≡ true in
    let never : x.lost ≡ true → ⊥ = λ l.
    shut-undecided d past s y.final all is (subst P (sym told) (or_left x.lost _ l))
    (decision-is d past s y is e) in
    left-by d past s x all told
    ∙ left-final s.ops x (is_closed s.number r) (decision s.number r) y (false_from_ne_true x.lost never) e

-- what is decided at the end, and was settled before, left that
pub committed-left : (d : DocumentData) (front past : List Act) (s : ScriptData) (x : Story) (f : Ident)
    → Follows d front past → script_of s.number d.scripts ≡ Some s → story d front s.number ≡ Some x
    → is_settled d front s ≡ true → IsDecided d past s.number f → left_on (state_of d front) s ≡ f
committed-left d front past s x f b is told settled w = elim (or_cases (is_shut s (story d front s.number)) _ settled) [
  | inl shut ↦ absurd (shut-undecided d past s f b.due is (shut-later d front past s b shut) w)
  | inr some ↦ go (decision s.number (journal d front s.home)) refl some
]
  where
    go : (o : Option Decision) → decision s.number (journal d front s.home) ≡ o → is_some o ≡ true
        → left_on (state_of d front) s ≡ f
    go None e i = cc
    go (Some y) e i =
        let has = decided-later d front past s.number y.final b (decision-is d front s y is e) in
        decided-left d front s x y (follows-due d front past b) is told e
        ∙ decided-same d past b.due s.number y.final f has w

-- ---- answered

-- what is not decided at the end was not decided before
undecided-before : (d : DocumentData) (front past : List Act) (s : ScriptData) → Follows d front past
    → script_of s.number d.scripts ≡ Some s → decision s.number (journal d past s.home) ≡ None
    → decision s.number (journal d front s.home) ≡ None
undecided-before d front past s b is none = go (decision s.number (journal d front s.home)) refl
  where
    go : (o : Option Decision) → decision s.number (journal d front s.home) ≡ o → o ≡ None
    go None e = refl
    go (Some y) e =
        let w : IsDecided d past s.number y.final =
        decided-later d front past s.number y.final b (decision-is d front s y is e) in
        let home = home-is d s.number s.home s is refl in
        let at : w.0 ≡ s.home = home-one (script_of s.number d.scripts) w.0 s.home w.1 home in
        let P : NodeId → Type 0 = λ n. has_decided s.number y.final (journal d past n) ≡ true in
        let says = has_decided-says s.number y.final (journal d past s.home) (subst P at w.2) in
        absurd (none-some says.0 (sym none ∙ says.1))

-- what is neither lost nor aborted at the end was neither before
unflagged-before : (d : DocumentData) (front past : List Act) (s : ScriptData) (x z : Story) → Follows d front past
    → story d front s.number ≡ Some x → story d past s.number ≡ Some z → z.aborted ≡ false → z.lost ≡ false
    → (x.aborted ≡ false) × (x.lost ≡ false)
unflagged-before d front past s x z b told end a l = or_parts x.aborted x.lost (false_from_ne_true _ never)
  where
    never : (x.aborted || x.lost) ≡ true → ⊥
    never e =
        let flagged = flagged-later d front past s.number b (subst IsFlagged (sym told) e) in
        both_ways (z.aborted || z.lost) (or_from z.aborted z.lost a l) (subst IsFlagged end flagged)

-- what is answered at the end, and was settled before, was answered before
answered-before : (d : DocumentData) (front past : List Act) (s : ScriptData) (x z : Story) → Follows d front past
    → script_of s.number d.scripts ≡ Some s → story d front s.number ≡ Some x → is_settled d front s ≡ true
    → story d past s.number ≡ Some z → Answers s.ops z (decision s.number (journal d past s.home))
    → Answers s.ops x (decision s.number (journal d front s.home))
answered-before d front past s x z b is told settled end a =
    let o : Option Decision = decision s.number (journal d front s.home) in
    let none : o ≡ None = undecided-before d front past s b is a.undecided in
    let free = unflagged-before d front past s x z b told end a.going a.kept in
    let P : Option Story → Type 0 = λ w. (is_shut s w || is_some o) ≡ true in
    let read = go x.lost x.aborted (x.finished && not (is_update s.ops)) o free.1 free.0 none (subst P told settled) in
    record { kept = free.1; undecided = none; going = free.0; told = read }
  where
    go : (l c r : Bool) (o : Option Decision) → l ≡ false → c ≡ false → o ≡ None
        → ((l || (c || r)) || is_some o) ≡ true → r ≡ true
    go false false true None i j k e = refl
    go false false false None i j k e = cc
    go true c r o i j k e = cc
    go false true r o i j k e = cc
    go false false r (Some y) i j k e = cc

-- it left its snapshot
pub answered-left : (d : DocumentData) (front past : List Act) (s : ScriptData) (x : Story) (i : Ident)
    → Follows d front past → script_of s.number d.scripts ≡ Some s → story d front s.number ≡ Some x
    → is_settled d front s ≡ true → AnsweredAt d past s i → left_on (state_of d front) s ≡ i
answered-left d front past s x i b is told settled at =
    let r = journal d front s.home in
    let sid : Ident = snapshot_in (Some x) in
    let values = x.progress.values in
    let all : AllDue d front = follows-due d front past b in
    let end = answered-story d past s b.due at.answered in
    let a = answered-before d front past s x end.0 b is told settled end.1 end.2 in
    let parts = and_parts x.finished (not (is_update s.ops)) a.told in
    let full = reader-full d front s x all is told parts.0 (not-true (is_update s.ops) parts.1) in
    let kept : snapshot d past s.number ≡ sid =
    full-snapshot d past s.home s.number s sid values
    (full-later d front past s.home s.number s sid values b full) in
    left-by d front s x all told
    ∙ ap (λ p. left_by p (Some x)) (answers-phase s.ops x (is_closed s.number r) (decision s.number r) a)
    ∙ sym kept
    ∙ at.at
