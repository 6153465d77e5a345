-- Each vote that was got is counted, unless its transaction is settled or its home is down.
use Rattle.grid_laws.proofs.DueActs.{due-before}
use Rattle.cause_laws.proofs.Events.{Event, run-holds}
use Rattle.cause_laws.proofs.GotVotes.{env-leaves, vote-of}
use Rattle.cause_laws.proofs.LossesSettle.{HasBegun, begun-more, opened-settles}
use Rattle.cause_laws.proofs.OpenStages.{fit-first, got-ungot, is_ungot, middle-ungot}
use Rattle.grid_laws.proofs.RowOuts.{pass-losses}
use Rattle.cause_laws.proofs.Outcomes.{IsKind, event-kind, failed, got_first, opened, plain}
use Rattle.cause_laws.proofs.OutsToEnds.{is_middle}
use Rattle.cause_laws.proofs.Settled.{settled-more}
use Rattle.cause_laws.proofs.Starts.{start-none}
use Rattle.cause_laws.proofs.VoteRows.{vote-full}
use Rattle.cause_laws.proofs.VoteStories.{Counted, counted-later, is_counted_in, is_done, is_down, is_unopened, opened-other, voted-more}
use Rattle.grid_laws.proofs.Causes.{AllDue}
use Rattle.grid_laws.proofs.Snapshots.{OfStory}
use Rattle.grid_model.specs.Excuses.{has_got, is_vote_of, passes}
use Rattle.grid_model.specs.Documents.{DocumentData, IsOne, number_order, script_numbers}
use Rattle.grid_model.specs.Facts.{AllFit}
use Rattle.grid_model.specs.Histories.{after, sent, sent_at}
use Rattle.grid_model.specs.Nodes.{got, script_of}
use Rattle.grid_model.specs.Runs.{IsRun}
use Rattle.grid_model.specs.Schedules.{losses, opened_row}
use Rattle.grid_model.specs.Stories.{begun}
use Rattle.grid_model.specs.declared.acts.Act.TheVariants as act
use Rattle.grid_model.specs.declared.acts.Act.{Act}
use Rattle.grid_model.specs.declared.acts.Flag.{Flag}
use Rattle.grid_model.specs.declared.messages.Envelope.{Envelope}
use Rattle.grid_model.specs.declared.messages.Message.{Message}
use Rattle.grid_model.specs.declared.stories.Story.{Story}
use Rattle.score_base.specs.declared.ids.NodeId.{NodeId}
use Rattle.score_base.specs.declared.ids.TxId.{TxId}
use Rattle.script_lang.specs.Scripts.{ScriptData}
use Rattle.std.proofs.Common.{Bool, List, Option, Some, [], arith, false, inl, inr, refl, subst, sym, true, ◌||◌, ◌∙◌, ◌∷◌, ◌≡◌, ◌≢◌}
use Rattle.std.proofs.lemmas.Bool.Decides.{nat_tests}
use Rattle.std.proofs.lemmas.Bool.{and_from, and_parts, cases_eq, or_cases}
use Rattle.std.specs.List.{list_all}
use Rattle.std.specs.Prelude.{◌&&◌, ◌==◌}

middle-unopened : (acts : List Act) → list_all is_middle acts ≡ true → list_all is_unopened acts ≡ true
middle-unopened [] h = refl
middle-unopened (act.Up n f ∷ acts) h = cc
middle-unopened (a ∷ acts) h = middle-unopened acts (and_parts (is_middle a) (list_all is_middle acts) h).1

-- an act of a loss
abbrev is_losing : Act → Bool
is_losing a = is_unopened a && is_ungot a

losing-parts : (acts : List Act) → list_all is_losing acts ≡ true
    → (list_all is_unopened acts ≡ true) × (list_all is_ungot acts ≡ true)
losing-parts [] h = (refl, refl)
losing-parts (a ∷ acts) h =
    let w = and_parts (is_unopened a && is_ungot a) (list_all is_losing acts) h in
    let v = and_parts (is_unopened a) (is_ungot a) w.0 in
    let more = losing-parts acts w.1 in
    (and_from (is_unopened a) (list_all is_unopened acts) v.0 more.0, and_from (is_ungot a) (list_all is_ungot acts) v.1 more.1)

begun-later : (d : DocumentData) (past acts : List Act) (t : TxId) → AllDue d (after past acts) → HasBegun d past t
    → HasBegun d (after past acts) t
begun-later d past [] t due k = k
begun-later d past (a ∷ acts) t due k = begun-later d (a ∷ past) acts t due (begun-more d past a t (due-before d (a ∷ past) acts due) k)

-- ---- each event

-- each vote that was got is of a transaction that began, and is counted
abbrev pub VotesTaken : DocumentData → List Act → Type 0
VotesTaken d past =
    (s : ScriptData) (n : NodeId) → script_of s.number d.scripts ≡ Some s
    → has_got (λ x y said. x == n && is_vote_of s.number said) past ≡ true
    → Counted d past s n × HasBegun d past s.number

opened-counted : (d : DocumentData) (past : List Act) (k : NodeId) (f : Flag) (s : ScriptData) (n : NodeId)
    → script_of s.number d.scripts ≡ Some s → AllDue d (after past (opened_row d past k f)) → HasBegun d past s.number
    → Counted d past s n → Counted d (after past (opened_row d past k f)) s n
opened-counted d past k f s n is due begun c = elim (cases_eq s.home k) [
  | inl here ↦ is_done (opened-settles d past k f s due is here begun)
  | inr other ↦ counted-later d (act.Up k f ∷ past) (losses d (act.Up k f ∷ past) k) s n is due (losing-parts (losses d (act.Up k f ∷ past) k) (pass-losses is_losing d (act.Up k f ∷ past) k (number_order (script_numbers d.scripts)) (λ t. refl))).0 (now other c)
]
  where
    now : s.home ≢ k → Counted d past s n → Counted d (act.Up k f ∷ past) s n
    now other (is_down h) = is_down (opened-other d past k s.home f (λ e. other (sym e)) h)
    now other (is_done h) = is_done (settled-more d past (act.Up k f) s tt h)
    now other (is_counted_in h) = is_counted_in (voted-more n d past (act.Up k f) s.number tt refl h)

taken-event : (d : DocumentData) (past acts : List Act) → IsOne d → Event d past acts → VotesTaken d past
    → VotesTaken d (after past acts)
taken-event d past acts one event all s n is h = go (event-kind d past acts one event.before event.is)
  where
    p : NodeId → NodeId → Message → Bool
    p = λ x y said. x == n && is_vote_of s.number said

    Goal : List Act → Type 0
    Goal = λ z. Counted d (after past z) s n × HasBegun d (after past z) s.number

    Has : List Act → Type 0
    Has = λ z. has_got p (after past z) ≡ true

    Due : List Act → Type 0
    Due = λ z. AllDue d (after past z)

    unopened : (z : List Act) → Due z → list_all is_unopened z ≡ true → has_got p past ≡ true → Goal z
    unopened z due u k = let w = all s n is k in (counted-later d past z s n is due u w.0, begun-later d past z s.number due w.1)

    go : IsKind d past acts → Goal acts
    go (plain m) = unopened acts event.due (middle-unopened acts m) (sym (got-ungot p past acts (middle-ungot acts m)) ∙ h)
    go (failed k up e) = subst Goal (sym e) (unopened (act.StillDown k ∷ []) (subst Due e event.due) refl (subst Has e h))
    go (opened k f up e) =
        let losing = losing-parts (losses d (act.Up k f ∷ past) k) (pass-losses is_losing d (act.Up k f ∷ past) k (number_order (script_numbers d.scripts)) (λ t. refl)) in
        let due : Due (opened_row d past k f) = subst Due e event.due in
        let w = all s n is (sym (got-ungot p past (opened_row d past k f) losing.1) ∙ subst Has e h) in
        subst Goal (sym e) (opened-counted d past k f s n is due w.1 w.0, begun-later d past (opened_row d past k f) s.number due w.1)
    go (got_first m e b rest got up r k mid) = subst Goal (sym k) (elim (or_cases (e.from == n && is_vote_of s.number e.message) (has_got p past) (subst E got (sym (got-ungot p (act.Got m ∷ past) rest (middle-ungot rest mid)) ∙ subst Has k h))) [
      | inl here ↦ now (and_parts (e.from == n) (is_vote_of s.number e.message) here)
      | inr before ↦ unopened (act.Got m ∷ rest) due (middle-unopened rest mid) before
    ])
      where
        E : Option Envelope → Type 0
        E = λ o. (passes p o || has_got p past) ≡ true

        due : Due (act.Got m ∷ rest)
        due = subst Due k event.due

        F : List Act → Type 0
        F = λ z. AllFit d (after past z)

        now : ((e.from == n) ≡ true) × (is_vote_of s.number e.message ≡ true) → Goal (act.Got m ∷ rest)
        now w =
            let from : (e.from == n) ≡ true = w.0 in
            let same : e.from ≡ n = grind (arith, nat_tests, from) in
            let a = vote-of s.number e.message w.1 in
            let S : Message → Type 0 = λ z. sent_at m (sent past) ≡ Some (record { from = e.from; to = e.to; message = z }) in
            let v = vote-full d past m e.from e.to s.number a.0 event.before (subst S a.1 got) in
            let P : Option Story → Type 0 = λ o. OfStory ⊥ (λ i values. Unit {0}) o in
            let begun : HasBegun d past s.number = subst P (sym v.full.at.story) tt in
            let C : NodeId → Type 0 = λ z. Counted d (after past (act.Got m ∷ rest)) s z in
            let c = env-leaves d past m e b s rest one is got (fit-first d past m e rest got (subst F k event.fit)) r due w.1 in
            (subst C same c.counted, begun-later d past (act.Got m ∷ rest) s.number due begun)

pub votes-taken : (d : DocumentData) (h : List Act) → IsOne d → IsRun d d.items h → VotesTaken d (after [] h)
votes-taken d h one run =
    run-holds d (VotesTaken d)
    (λ ups s n is got. absurd (not-both (sym (start-none d (λ x y said. x == n && is_vote_of s.number said) ups) ∙ got)))
    (λ past acts event all. taken-event d past acts one event all)
    h one run
  where
    not-both : false ≡ true → ⊥
    not-both e = cc
