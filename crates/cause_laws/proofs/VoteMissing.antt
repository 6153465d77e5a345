-- While a transaction collects, some part of it has not voted.
use Rattle.grid_laws.proofs.DueActs.{due-before}
use Rattle.cause_laws.proofs.Events.{Event, run-holds}
use Rattle.cause_laws.proofs.GotVotes.{NotFull, env-leaves, some-part}
use Rattle.cause_laws.proofs.OpenStages.{IsGetting, event-getting, is_ungot, none_got, one_got}
use Rattle.cause_laws.proofs.Settled.{settled-later, settled-more}
use Rattle.cause_laws.proofs.Starts.{start-untold}
use Rattle.cause_laws.proofs.VoteStories.{if-unvoted, is_unvoted, unvoted-later}
use Rattle.grid_laws.proofs.Causes.{AllDue}
use Rattle.grid_model.specs.Excuses.{is_vote_of}
use Rattle.grid_model.specs.Documents.{DocumentData, IsOne}
use Rattle.grid_model.specs.Histories.{after, sent, sent_at}
use Rattle.grid_model.specs.Nodes.{Node, got, node, parts_of, script_of}
use Rattle.grid_model.specs.Runs.{IsRun}
use Rattle.grid_model.specs.Stories.{Phase, heard, heard_at, if_told, is_counted_ack, is_counted_vote, phase_at, story, with_ack, with_vote, progressed}
use Rattle.grid_model.specs.declared.acts.Act.TheVariants as act
use Rattle.grid_model.specs.declared.acts.Act.{Act}
use Rattle.grid_model.specs.declared.messages.Envelope.{Envelope}
use Rattle.grid_model.specs.declared.messages.Message.TheVariants as message
use Rattle.grid_model.specs.declared.messages.Message.{Message}
use Rattle.grid_model.specs.declared.stories.Story.{Story}
use Rattle.score_base.specs.declared.causes.Ballot.TheVariants as ballot
use Rattle.score_base.specs.declared.ids.NodeId.{NodeId}
use Rattle.script_lang.specs.Scripts.{ScriptData}
use Rattle.std.proofs.Common.{Bool, List, None, Option, Some, [], false, inl, inr, refl, subst, sym, true, ℕ, ◌∷◌, ◌≡◌}
use Rattle.std.specs.List.{list_all}
use Rattle.std.specs.Prelude.{if◌then◌else◌, ◌&&◌, ◌==◌}

-- ---- any other message

heard-unvoted : (d : DocumentData) (s : ScriptData) (ns : List NodeId) (p : Phase) (h : Node) (x : NodeId)
    (said : Message) (o : Option Story) → is_vote_of s.number said ≡ false → is_unvoted d s o ≡ true
    → is_unvoted d s (heard ns p h s.number x said o) ≡ true
heard-unvoted d s ns p h x (message.Vote u (ballot.Yes q)) o none k =
    let P : Bool → Type 0 = λ b. is_unvoted d s (if_told (b && is_counted_vote ns p h.journal h.next x q) (progressed (with_vote x q)) o) ≡ true in
    subst P (sym none) (stays o k)
  where
    stays : (o : Option Story) → is_unvoted d s o ≡ true
        → is_unvoted d s (if_told false (progressed (with_vote x q)) o) ≡ true
    stays None h = h
    stays (Some y) h = h
heard-unvoted d s ns p h x (message.Vote u (ballot.No why)) o none k = k
heard-unvoted d s ns p h x (message.Ack u) o none k = if-unvoted d s ((u == s.number) && is_counted_ack ns p h.journal h.next x) (with_ack x) o (λ e y i j. j) k
heard-unvoted d s ns p h x said o none k = k

got-unvoted : (d : DocumentData) (past : List Act) (m : ℕ) (e : Envelope) (s : ScriptData)
    → script_of s.number d.scripts ≡ Some s → sent_at m (sent past) ≡ Some e → is_vote_of s.number e.message ≡ false
    → is_unvoted d s (story d past s.number) ≡ true → is_unvoted d s (story d (act.Got m ∷ past) s.number) ≡ true
got-unvoted d past m e s is got none h =
    let P : Option ScriptData → Type 0 = λ w. is_unvoted d s (heard_at d past w (sent_at m (sent past)) (story d past s.number)) ≡ true in
    let Q : Option Envelope → Type 0 = λ z. is_unvoted d s (heard_at d past (Some s) z (story d past s.number)) ≡ true in
    subst P (sym is) (subst Q (sym got) (go (e.to == s.home)))
  where
    go : (b : Bool) → is_unvoted d s (if b then heard (parts_of d s)
        (phase_at s (story d past s.number) (node d past s.home)) (node d past s.home) s.number e.from e.message
        (story d past s.number) else story d past s.number) ≡ true
    go true = heard-unvoted d s (parts_of d s) (phase_at s (story d past s.number) (node d past s.home)) (node d past s.home) e.from e.message (story d past s.number) none h
    go false = h

-- ---- each event

abbrev pub AllNotFull : DocumentData → List Act → Type 0
AllNotFull d past = (s : ScriptData) → script_of s.number d.scripts ≡ Some s → NotFull d past s

full-later : (d : DocumentData) (past acts : List Act) (s : ScriptData) → IsOne d
    → script_of s.number d.scripts ≡ Some s → list_all is_ungot acts ≡ true → AllDue d (after past acts)
    → NotFull d past s → NotFull d (after past acts) s
full-later d past acts s one is u due (inl settled) = inl (settled-later d past acts s due settled)
full-later d past acts s one is u due (inr unvoted) = inr (unvoted-later d past acts s is (some-part d s one is) u due unvoted)

full-event : (d : DocumentData) (past acts : List Act) → IsOne d → Event d past acts → AllNotFull d past
    → AllNotFull d (after past acts)
full-event d past acts one event all s is = go (event-getting d past acts one event)
  where
    go : IsGetting d past acts → NotFull d (after past acts) s
    go (none_got u) = full-later d past acts s one is u event.due (all s is)
    go (one_got m e b rest got up r k u fit) = subst G (sym k) (by (is_vote_of s.number e.message) refl)
      where
        A : List Act → Type 0
        A = λ z. AllDue d (after past z)

        G : List Act → Type 0
        G = λ z. NotFull d (after past z) s

        due : AllDue d (after (act.Got m ∷ past) rest)
        due = subst A k event.due

        by : (c : Bool) → is_vote_of s.number e.message ≡ c → NotFull d (after (act.Got m ∷ past) rest) s
        by true h = (env-leaves d past m e b s rest one is got fit r due h).waits (all s is)
        by false h = full-later d (act.Got m ∷ past) rest s one is u due (elim (all s is) [
          | inl settled ↦ inl (settled-more d past (act.Got m) s (due-before d (act.Got m ∷ past) rest due).0 settled)
          | inr unvoted ↦ inr (got-unvoted d past m e s is got h unvoted)
        ])

-- at the end of a run
pub never-full : (d : DocumentData) (h : List Act) → IsOne d → IsRun d d.items h → AllNotFull d (after [] h)
never-full d h one run =
    run-holds d (AllNotFull d)
    (λ ups s is. let P : Option Story → Type 0 = λ o. is_unvoted d s o ≡ true in inr (subst P (sym (start-untold d ups s.number)) refl))
    (λ past acts event all. full-event d past acts one event all)
    h one run
