-- A transaction that collects at the end, its home up, waits for the vote of a part.
use Rattle.cause_laws.proofs.AdvanceAsks.{AskedBy, IsAsked}
use Rattle.cause_laws.proofs.Askings.{all-asked}
use Rattle.cause_laws.proofs.Events.{run-holds}
use Rattle.cause_laws.proofs.SentHomes.{prepares-sent, votes-sent}
use Rattle.cause_laws.proofs.Settled.{is_settled, is_shut, settled-closed, unsettled-undecided, unsettled-unshut}
use Rattle.cause_laws.proofs.Starts.{start-untold}
use Rattle.cause_laws.proofs.VoteMissing.{never-full}
use Rattle.cause_laws.proofs.VoteStories.{Counted, is_counted_in, is_done, is_down, is_none_voted, is_unvoted, is_voted_in}
use Rattle.cause_laws.proofs.VotesCounted.{votes-taken}
use Rattle.cause_laws.proofs.VotesSent.{is_voted, prepares-answered}
use Rattle.grid_laws.proofs.Answered.{AllTold, is_told}
use Rattle.grid_laws.proofs.Causes.{AllDue}
use Rattle.grid_laws.proofs.Frames.{same-number}
use Rattle.grid_laws.proofs.RunsDue.{due-run}
use Rattle.grid_model.specs.Excuses.{WaitsForVote, began_down, has_got, has_sent, is_prepare_of, is_vote_of}
use Rattle.grid_model.specs.Documents.{DocumentData, IsOne}
use Rattle.grid_model.specs.Histories.{after}
use Rattle.journal_words.proofs.Later.{undecided-later}
use Rattle.journal_words.specs.Journals.{later_decision, Decision, decision, ended, is_closed}
use Rattle.grid_model.specs.Nodes.{is_home, journal, node, parts_of, script_of}
use Rattle.grid_model.specs.Rows.{have_voted}
use Rattle.grid_model.specs.Runs.{IsRun}
use Rattle.grid_model.specs.Stories.{has_voted, is_open, open_phase, phase, phase_at, phase_by, story, told}
use Rattle.script_runs.specs.Waits.{waiting}
use Rattle.grid_model.specs.declared.acts.Act.{Act}
use Rattle.grid_model.specs.declared.stories.Story.{Story}
use Rattle.grid_model.specs.declared.stories.Voted.{Voted}
use Rattle.placement.specs.Places.{is_among}
use Rattle.score_base.specs.declared.causes.Outcome.{Outcome}
use Rattle.score_base.specs.declared.ids.NodeId.{NodeId}
use Rattle.score_base.specs.declared.records.Record.{Record}
use Rattle.script_lang.specs.Reads.{is_update}
use Rattle.script_lang.specs.Scripts.{ScriptData}
use Rattle.script_lang.specs.declared.scripts.Op.{Op}
use Rattle.std.proofs.Common.{Bool, List, None, Option, Some, [], false, inl, inr, refl, subst, sym, true, ℕ, ◌||◌, ◌∙◌, ◌∷◌, ◌≡◌, ◌⊎◌}
use Rattle.std.proofs.lemmas.Bool.{or_left, or_right}
use Rattle.std.specs.Prelude.{if◌then◌else◌, is_some, not, ◌&&◌, ◌==◌}

-- ---- what is open

-- s began, and is not settled
pub record OpenTold (d : DocumentData) (past : List Act) (s : ScriptData) : Type 0 where
  pub tale : Story
  pub told : story d past s.number ≡ Some tale
  pub unsettled : is_settled d past s ≡ false

pub open-told : (d : DocumentData) (past : List Act) (s : ScriptData) → AllDue d past → is_open (phase d past s) ≡ true
    → OpenTold d past s
open-told d past s due h = go (is_settled d past s) (story d past s.number) refl refl h
  where
    go : (b : Bool) (o : Option Story) → is_settled d past s ≡ b → story d past s.number ≡ o
        → is_open (phase d past s) ≡ true → OpenTold d past s
    go true o e told h = (let f : false ≡ true = sym (settled-closed d past s due e) ∙ h in cc)
    go false None e told h =
        let P : Option Story → Type 0 = λ o. is_open (phase_at s o (node d past s.home)) ≡ true in
        (let f : false ≡ true = subst P told h in cc)
    go false (Some x) e told h = record { tale = x; told = told; unsettled = e }

phase-told : (ops : List Op) (x : Story) (closed : Bool) (o : Option Decision) (l a f : Bool) → x.lost ≡ l
    → x.aborted ≡ a → (x.finished && not (is_update ops)) ≡ f → ((l || (a || f)) || is_some o) ≡ false
    → phase_by ops (Some x) closed o ≡ open_phase (waiting ops x.progress.values)
phase-told ops x closed None false false false e g i h = rw (e, g, i) refl
phase-told ops x closed o true a f e g i h = cc
phase-told ops x closed o false true f e g i h = cc
phase-told ops x closed o false false true e g i h = cc
phase-told ops x closed (Some y) false false false e g i h = cc

-- it reads its first remote read without a value, or collects
pub unsettled-phase : (d : DocumentData) (past : List Act) (s : ScriptData) (w : OpenTold d past s)
    → phase d past s ≡ open_phase (waiting s.ops w.tale.progress.values)
unsettled-phase d past s w =
    let r : List Record = journal d past s.home in
    let P : Option Story → Type 0 = λ o. phase_at s o (node d past s.home) ≡ open_phase (waiting s.ops w.tale.progress.values) in
    let Q : Option Story → Type 0 = λ o. (is_shut s o || is_some (decision s.number r)) ≡ false in
    let none : (is_shut s (Some w.tale) || is_some (decision s.number r)) ≡ false = subst Q w.told w.unsettled in
    let later : later_decision w.tale.skipped s.number r ≡ None = undecided-later w.tale.skipped s.number r (unsettled-undecided (is_shut s (Some w.tale)) (decision s.number r) none) in
    subst P (sym w.told) (rw later (phase-told s.ops w.tale (is_closed s.number r) None w.tale.lost w.tale.aborted (w.tale.finished && not (is_update s.ops)) refl refl refl (unsettled-unshut (is_shut s (Some w.tale)) (decision s.number r) none)))

-- ---- it is an update

all-told : (d : DocumentData) (h : List Act) → IsOne d → IsRun d d.items h → AllTold d (after [] h)
all-told d h one run =
    run-holds d (AllTold d)
    (λ ups t s is. let P : Option Story → Type 0 = λ o. is_told s o ≡ true in subst P (sym (start-untold d ups t)) refl)
    (λ past acts event all. event.answered)
    h one run

collects-update : (d : DocumentData) (past : List Act) (s : ScriptData) (w : OpenTold d past s) → AllTold d past
    → script_of s.number d.scripts ≡ Some s → waiting s.ops w.tale.progress.values ≡ None → is_update s.ops ≡ true
collects-update d past s w told is full = go (is_update s.ops) refl
  where
    Q : Option Story → Type 0
    Q = λ o. (is_shut s o || is_some (decision s.number (journal d past s.home))) ≡ false

    T : Option Story → Type 0
    T = λ o. is_told s o ≡ true

    here : (is_some (waiting s.ops w.tale.progress.values) || (is_update s.ops || w.tale.finished)) ≡ true
    here = subst T w.told (told s.number s is)

    open_still : ((w.tale.lost || (w.tale.aborted || (w.tale.finished && not (is_update s.ops))))
        || is_some (decision s.number (journal d past s.home))) ≡ false
    open_still = subst Q w.told w.unsettled

    not-both : (l a f c : Bool) → (false || f) ≡ true → ((l || (a || (f && true))) || c) ≡ false → ⊥
    not-both true a f c h k = cc
    not-both false true f c h k = cc
    not-both false false true c h k = cc
    not-both false false false c h k = cc

    go : (b : Bool) → is_update s.ops ≡ b → b ≡ true
    go true e = refl
    go false e =
        let A : Bool → Type 0 = λ u. (is_some (waiting s.ops w.tale.progress.values) || (u || w.tale.finished)) ≡ true in
        let B : Option ℕ → Type 0 = λ o. (is_some o || (false || w.tale.finished)) ≡ true in
        let C : Bool → Type 0 = λ u. ((w.tale.lost || (w.tale.aborted || (w.tale.finished && not u))) || is_some (decision s.number (journal d past s.home))) ≡ false in
        absurd (not-both w.tale.lost w.tale.aborted w.tale.finished (is_some (decision s.number (journal d past s.home))) (subst B full (subst A e here)) (subst C e open_still))

-- ---- the part

unvoted-part : (ns : List NodeId) (vs : List Voted) → have_voted ns vs ≡ false
    → (n : NodeId) × (is_among n ns ≡ true) × (has_voted n vs ≡ false)
unvoted-part [] vs h = cc
unvoted-part (n ∷ ns) vs h = go (has_voted n vs) refl h (λ e. unvoted-part ns vs e)
  where
    go : (b : Bool) → has_voted n vs ≡ b → (b && have_voted ns vs) ≡ false
        → (have_voted ns vs ≡ false → (k : NodeId) × (is_among k ns ≡ true) × (has_voted k vs ≡ false))
        → (k : NodeId) × (is_among k (n ∷ ns) ≡ true) × (has_voted k vs ≡ false)
    go false e h more = (n, or_left (n == n) (is_among n ns) (same-number n), e)
    go true e h more = let w = more h in (w.0, or_right (n == w.0) (is_among w.0 ns) w.1, w.2)

not-true : (a : Bool) → not a ≡ true → a ≡ false
not-true true h = cc
not-true false h = refl

homed : (a b c : Bool) → (b ≡ true → c ≡ true) → (a || b) ≡ true → (a || c) ≡ true
homed true b c go h = refl
homed false b c go h = go h

-- where the home is up: the vote that it waits for
pub waits-vote : (d : DocumentData) (h : List Act) (s : ScriptData) → IsOne d → IsRun d d.items h
    → script_of s.number d.scripts ≡ Some s → ((n : NodeId) → ended s.number (journal d (after [] h) n) ≡ None)
    → (node d (after [] h) s.home).up ≡ true → (w : OpenTold d (after [] h) s)
    → waiting s.ops w.tale.progress.values ≡ None → WaitsForVote d (after [] h) s.number
waits-vote d h s one run is unended up w full =
    record {
      part = part.0;
      is_part = rw is part.1;
      asked = prepares-sent d past s.number part.0 one due (asks update part.0 part.1);
      quiet = quiet (has_got (λ x y said. x == part.0 && is_vote_of s.number said) past) refl;
      each = λ later g. homed (began_down part.0 later) (has_sent (λ x y said. x == part.0 && is_vote_of s.number said) later) (has_sent (λ x y said. x == part.0 && (is_home d s.number y && is_vote_of s.number said)) later) (λ v. votes-sent d (λ x y said. is_prepare_of s.number said) past s.number part.0 part.0 later one due g v) (answers later (prepares-answered d h one run s.number part.0 later g));
    }
  where
    past : List Act
    past = after [] h

    due : AllDue d past
    due = due-run d d.items h run

    not_all : have_voted (parts_of d s) w.tale.progress.votes ≡ false
    not_all = elim (never-full d h one run s is) [
      | inl settled ↦ absurd (not-both (sym w.unsettled ∙ settled))
      | inr unvoted ↦
          let U : Option Story → Type 0 = λ o. is_unvoted d s o ≡ true in
          let W : Option ℕ → Type 0 = λ o. (if is_some o then is_none_voted w.tale.progress.votes else not (have_voted (parts_of d s) w.tale.progress.votes)) ≡ true in
          not-true (have_voted (parts_of d s) w.tale.progress.votes) (subst W full (subst U w.told unvoted))
    ]
      where
        not-both : false ≡ true → ⊥
        not-both e = cc

    part : (n : NodeId) × (is_among n (parts_of d s) ≡ true) × (has_voted n w.tale.progress.votes ≡ false)
    part = unvoted-part (parts_of d s) w.tale.progress.votes not_all

    update : is_update s.ops ≡ true
    update = collects-update d past s w (all-told d h one run) is full

    asks : AskedBy d past s None
    asks = (let A : Option Story → Type 0 = λ o. IsAsked d past s o in let B : Option ℕ → Type 0 = λ o. AskedBy d past s o in subst B full (subst A w.told (all-asked d h one run s is)))

    quiet : (b : Bool) → has_got (λ x y said. x == part.0 && is_vote_of s.number said) past ≡ b → b ≡ false
    quiet false e = refl
    quiet true e = counted (votes-taken d h one run s part.0 is e).0
      where
        counted : Counted d past s part.0 → true ≡ false
        counted (is_down e) = sym up ∙ e
        counted (is_done e) = sym e ∙ w.unsettled
        counted (is_counted_in e) = (let V : Option Story → Type 0 = λ o. is_voted_in part.0 o ≡ true in sym (subst V w.told e) ∙ part.2)

    answers : (later : List Act)
        → (is_voted part.0 s.number later ≡ true) ⊎ (is_some (ended s.number (journal d past part.0)) ≡ true)
        → is_voted part.0 s.number later ≡ true
    answers later (inl voted) = voted
    answers later (inr over) = (let P : Option Outcome → Type 0 = λ o. is_some o ≡ true in let f : false ≡ true = subst P (unended part.0) over in cc)
