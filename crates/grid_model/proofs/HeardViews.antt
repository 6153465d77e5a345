-- The view of a node behind a message that it got, before it gives anything.
use Rattle.std.proofs.Common.{ℕ, Bool, true, false, ◌&&◌, ◌||◌, ◌==◌, IsTrue, List, [], ◌∷◌, Option, None, Some, is_some, is_none, ◌≡◌, refl, sym, ◌∙◌, arith, inl, inr, if◌then◌else◌}
use Rattle.std.proofs.lemmas.Bool.{cases_eq}
use Rattle.std.proofs.lemmas.Bool.Decides.{nat_tests}
use Rattle.score_base.specs.declared.ids.TxId.{TxId}
use Rattle.score_base.specs.declared.ids.NodeId.{NodeId}
use Rattle.score_base.specs.declared.ids.Ident.{Ident}
use Rattle.score_base.specs.declared.causes.Ballot.TheVariants as ballot
use Rattle.script_lang.specs.Scripts.{ScriptData}
use Rattle.script_lang.specs.Reads.{keys_of}
use Rattle.placement.specs.Places.{parts, is_among}
use Rattle.grid_model.specs.declared.acts.Act.{Act}
use Rattle.grid_model.specs.declared.acts.Act.TheVariants as act
use Rattle.grid_model.specs.declared.messages.Envelope.{Envelope}
use Rattle.grid_model.specs.declared.messages.Message.{Message}
use Rattle.grid_model.specs.declared.messages.Message.TheVariants as message
use Rattle.grid_model.specs.declared.stories.Story.{Story}
use Rattle.grid_model.specs.Documents.{DocumentData}
use Rattle.grid_model.specs.Histories.{sent, sent_at}
use Rattle.journal_words.specs.Journals.{Decision, is_closed, undone, later_decision}
use Rattle.journal_words.proofs.Later.{AreOver}
use Rattle.score_base.specs.declared.records.Record.{Record}
use Rattle.grid_model.specs.Nodes.{Node, node, script_of, parts_of, is_home_in}
use Rattle.grid_model.specs.Advances.{parts_now}
use Rattle.grid_model.specs.Stories.{Decided, open_phase, story, skipped_in, heard, heard_at, if_told, phase_by, phase_at, is_small_node, is_counted_vote, with_vote, with_node, with_ack, progressed}
use Rattle.script_runs.specs.Waits.{waiting}
use Rattle.grid_model.specs.Views.{Stage, Open, participant_of, open_at, acks_by, acks_at, view, stage_by, open_stage}
use Rattle.journal_words.specs.Participants.{Participant}
use Rattle.grid_model.specs.Fitness.{counts_vote, counts_ack}
use Rattle.grid_model.specs.NextViews.{changed_open, heard_view, OwnDecisions, is_running}
use Rattle.grid_model.proofs.Undecided.{script-number, over-there, skipped-heard}
use Rattle.grid_model.proofs.ViewSteps.{same-if, same-view, entry, entry-decided, here, acks-told}

-- ---- a yes

-- a yes that is taken, in a story and at the desk
vote-taken : (s : ScriptData) (closed : Bool) (y : Option Decision) (o : Option Story) (b : Bool) (x : NodeId)
    (p : Ident) → entry s closed y (if_told b (progressed (with_vote x p)) o)
    ≡ (if b then changed_open (with_vote x p) (entry s closed y o) else entry s closed y o)
vote-taken s closed y o b x p = grind arith

-- the phase of what stands at the desk
open-phase : (s : ScriptData) (closed : Bool) (y : Option Decision) (o : Option Story) (q : Open)
    → entry s closed y o ≡ Some q
    → (phase_by s.ops o closed y ≡ open_phase (waiting q.script.ops q.progress.values)) × (q.script ≡ s) × (y ≡ None)
open-phase s closed (Some y) o q is = grind (arith, entry-decided s closed y o)
open-phase s closed None o q is = (grind arith, grind arith, refl)

-- the phase of what stands at the desk is that of its stage
counts-same : (p : Participant) (q : Open) (x : NodeId) (proposal : Ident) (w : Option ℕ)
    → is_counted_vote (parts_now p.cluster q) (open_phase w) p.journal p.next x proposal
    ≡ counts_vote p (open_stage q w) x proposal
counts-same p q x proposal None = refl
counts-same p q x proposal (Some j) = refl

-- the yes of x counts in a story where it counts at the desk
vote-entry : (k : Participant) (s : ScriptData) (closed : Bool) (y : Option Decision) (o : Option Story)
    (acks : List NodeId) (told : Bool) (x : NodeId) (p : Ident) →
    entry s closed y (if_told (told && is_counted_vote (parts k.cluster.places (keys_of s.ops)) (phase_by s.ops o closed y) k.journal k.next x p) (progressed (with_vote x p)) o)
    ≡ (if told && counts_vote k (stage_by (if closed then None else y) (entry s closed y o) acks) x p then changed_open (with_vote x p) (entry s closed y o) else entry s closed y o)
vote-entry k s closed y o acks told x p = vote-taken s closed y o _ x p ∙ go (entry s closed y o) refl
  where
    go : (en : Option Open) → entry s closed y o ≡ en →
        (if told && is_counted_vote (parts k.cluster.places (keys_of s.ops)) (phase_by s.ops o closed y) k.journal k.next x p then changed_open (with_vote x p) en else en)
        ≡ (if told && counts_vote k (stage_by (if closed then None else y) en acks) x p then changed_open (with_vote x p) en else en)
    go None is = grind arith
    go (Some q) is =
        let known = open-phase s closed y o q is in
        let none : (if closed then None else y) ≡ None = rw known.2 (grind arith) in
        rw (known.0, none, ← known.1, counts-same k q x p (waiting q.script.ops q.progress.values)) refl

-- an acknowledgement leaves the desk
ack-entry : (s : ScriptData) (closed : Bool) (y : Option Decision) (o : Option Story) (b : Bool) (x : NodeId)
    → entry s closed y (if_told b (with_ack x) o) ≡ entry s closed y o
ack-entry s closed y o b x = grind arith

-- ---- the desk behind a message

abbrev pub letter : NodeId → NodeId → Message → Envelope
letter n x said = record { from = x; to = n; message = said }

-- the stage of t at n, by its script and its story
abbrev at_stage : NodeId → Node → TxId → Option ScriptData → Option Story → Stage
at_stage n h t so o = stage_by (undone t h.journal) (open_at n h so o) (acks_at n h t so o)

vote-home : (d : DocumentData) (past : List Act) (x : NodeId) (u : TxId) (p : Ident) (s : ScriptData) (o : Option Story)
    → AreOver (skipped_in o) s.number (node d past s.home).journal →
    open_at s.home (node d past s.home) (Some s) (heard_at d past (Some s) (Some (letter s.home x (message.Vote u (ballot.Yes p)))) o)
    ≡ (if (u == s.number) && counts_vote (participant_of d.cluster (node d past s.home)) (at_stage s.home (node d past s.home) s.number (Some s) o) x p
    then changed_open (with_vote x p) (open_at s.home (node d past s.home) (Some s) o)
    else open_at s.home (node d past s.home) (Some s) o)
vote-home d past x u p s o over =
    let h : Node = node d past s.home in
    let r : List Record = h.journal in
    let same = skipped-heard (parts_of d s) (phase_at s o h) h s.number x (message.Vote u (ballot.Yes p)) o in
    rw (here s.home, same, over.rest) (vote-entry (participant_of d.cluster h) s (is_closed s.number r) (later_decision (skipped_in o) s.number r) o (if is_some (if is_closed s.number r then None else later_decision (skipped_in o) s.number r) then acks_by o else []) (u == s.number) x p)

vote-desk : (d : DocumentData) (past : List Act) (n x : NodeId) (u t : TxId) (p : Ident) (so : Option ScriptData)
    (o : Option Story) → ((s : ScriptData) → so ≡ Some s → s.number ≡ t)
    → ((s : ScriptData) → so ≡ Some s → AreOver (skipped_in o) s.number (node d past s.home).journal) →
    open_at n (node d past n) so (heard_at d past so (Some (letter n x (message.Vote u (ballot.Yes p)))) o)
    ≡ (if (u == t) && counts_vote (participant_of d.cluster (node d past n)) (at_stage n (node d past n) t so o) x p
    then changed_open (with_vote x p) (open_at n (node d past n) so o)
    else open_at n (node d past n) so o)
vote-desk d past n x u t p None o number over = same-if _ None
vote-desk d past n x u t p (Some s) o number over = elim (cases_eq s.home n) [
  | inl same ↦ rw (← same, ← number s refl) (vote-home d past x u p s o (over s refl))
  | inr other ↦ (let apart : (s.home == n) ≡ false = grind (arith, nat_tests) in rw apart (same-if _ None))
]

ack-desk : (d : DocumentData) (past : List Act) (n x : NodeId) (u : TxId) (so : Option ScriptData) (o : Option Story)
    → open_at n (node d past n) so (heard_at d past so (Some (letter n x (message.Ack u))) o)
    ≡ open_at n (node d past n) so o
ack-desk d past n x u None o = refl
ack-desk d past n x u (Some s) o = go (n == s.home)
  where
    go : (b : Bool) → open_at n (node d past n) (Some s) (if b then heard (parts_of d s)
        (phase_at s o (node d past s.home)) (node d past s.home) s.number x (message.Ack u) o else o)
        ≡ open_at n (node d past n) (Some s) o
    go true =
        let r : List Record = (node d past n).journal in
        rw (skipped-heard (parts_of d s) (phase_at s o (node d past s.home)) (node d past s.home) s.number x (message.Ack u) o, ack-entry s (is_closed s.number r) (later_decision (skipped_in o) s.number r) o) refl
    go false = refl

-- a message that is neither a yes nor an acknowledgement tells no story
pub heard-nothing : (d : DocumentData) (past : List Act) (so : Option ScriptData) (n x : NodeId) (said : Message)
    (o : Option Story) → ((s : ScriptData)
    → heard (parts_of d s) (phase_at s o (node d past s.home)) (node d past s.home) s.number x said o ≡ o)
    → heard_at d past so (Some (letter n x said)) o ≡ o
heard-nothing d past None n x said o nothing = refl
heard-nothing d past (Some s) n x said o nothing = rw (nothing s) (sym (same-if (n == s.home) o))

-- ---- the acknowledgements behind a message

vote-acks : (d : DocumentData) (past : List Act) (n x : NodeId) (u t : TxId) (p : Ident) (so : Option ScriptData)
    (o : Option Story)
    → acks_at n (node d past n) t so (heard_at d past so (Some (letter n x (message.Vote u (ballot.Yes p)))) o)
    ≡ acks_at n (node d past n) t so o
vote-acks d past n x u t p None o = refl
vote-acks d past n x u t p (Some s) o = go (n == s.home)
  where
    go : (b : Bool) → acks_at n (node d past n) t (Some s) (if b then heard (parts_of d s)
        (phase_at s o (node d past s.home)) (node d past s.home) s.number x (message.Vote u (ballot.Yes p)) o else o)
        ≡ acks_at n (node d past n) t (Some s) o
    go true = acks-told n (node d past n) t (Some s) o _ (progressed (with_vote x p)) (λ z. refl)
    go false = refl

ack-counted : (told b : Bool) (x : NodeId) (z : Story)
    → acks_by (if_told (told && b) (with_ack x) (Some z)) ≡ (if told && b then with_node x z.acks else z.acks)
ack-counted false b x z = refl
ack-counted true false x z = refl
ack-counted true true x z = refl

-- what stands undone is decided and not closed
undone-decided : (closed : Bool) (o : Option Decision) (y : Decision) → (if closed then None else o) ≡ Some y
    → (closed ≡ false) × (o ≡ Some y)
undone-decided true o y is = grind arith
undone-decided false o y is = (refl, is)

decided-phase : (s : ScriptData) (z : Story) (h : Node) (y : Decision) → z.lost ≡ false
    → AreOver z.skipped s.number h.journal → undone s.number h.journal ≡ Some y → phase_at s (Some z) h ≡ Decided y
decided-phase s z h y kept over is = let known = undone-decided (is_closed s.number h.journal) (later_decision z.skipped s.number h.journal) y (sym over.rest ∙ is) in rw (kept, known.0, known.1) refl

ack-home : (d : DocumentData) (past : List Act) (x : NodeId) (u : TxId) (s : ScriptData) (z : Story) (y : Decision)
    → z.lost ≡ false → AreOver z.skipped s.number (node d past s.home).journal
    → undone s.number (node d past s.home).journal ≡ Some y →
    acks_at s.home (node d past s.home) s.number (Some s) (heard_at d past (Some s) (Some (letter s.home x (message.Ack u))) (Some z))
    ≡ (if (u == s.number) && counts_ack (participant_of d.cluster (node d past s.home)) (at_stage s.home (node d past s.home) s.number (Some s) (Some z)) x
    then with_node x (acks_at s.home (node d past s.home) s.number (Some s) (Some z))
    else acks_at s.home (node d past s.home) s.number (Some s) (Some z))
ack-home d past x u s z y kept over is = rw (here s.home, is, decided-phase s z (node d past s.home) y kept over is) (ack-counted (u == s.number) (is_small_node (node d past s.home).journal (node d past s.home).next && is_among x y.parts) x z)

-- without a standing decision there are no acknowledgements
no-decision : (n : NodeId) (h : Node) (t : TxId) (so : Option ScriptData) (o : Option Story) → undone t h.journal ≡ None
    → acks_at n h t so o ≡ []
no-decision n h t so o none = grind arith

no-commit : (p : Participant) (en : Option Open) (acks : List NodeId) (x : NodeId)
    → counts_ack p (stage_by None en acks) x ≡ false
no-commit p None acks x = refl
no-commit p (Some q) acks x = go (waiting q.script.ops q.progress.values)
  where
    go : (w : Option ℕ) → counts_ack p (open_stage q w) x ≡ false
    go None = refl
    go (Some j) = refl

if-false : {A : Type 0} (a : Bool) (x y : A) → y ≡ (if a && false then x else y)
if-false true x y = refl
if-false false x y = refl

ack-acks : (d : DocumentData) (past : List Act) (n x : NodeId) (u t : TxId) (so : Option ScriptData) (o : Option Story)
    → ((s : ScriptData) → so ≡ Some s → s.number ≡ t)
    → ((s : ScriptData) → so ≡ Some s → AreOver (skipped_in o) s.number (node d past s.home).journal)
    → IsTrue (is_none (undone t (node d past n).journal) || (is_home_in so n && is_running o)) →
    acks_at n (node d past n) t so (heard_at d past so (Some (letter n x (message.Ack u))) o)
    ≡ (if (u == t) && counts_ack (participant_of d.cluster (node d past n)) (at_stage n (node d past n) t so o) x
    then with_node x (acks_at n (node d past n) t so o)
    else acks_at n (node d past n) t so o)
ack-acks d past n x u t so o number over own = go (undone t (node d past n).journal) refl so o number over own
  where
    go : (w : Option Decision) → undone t (node d past n).journal ≡ w → (so : Option ScriptData) (o : Option Story)
        → ((s : ScriptData) → so ≡ Some s → s.number ≡ t)
        → ((s : ScriptData) → so ≡ Some s → AreOver (skipped_in o) s.number (node d past s.home).journal)
        → IsTrue (is_none w || (is_home_in so n && is_running o)) →
        acks_at n (node d past n) t so (heard_at d past so (Some (letter n x (message.Ack u))) o)
        ≡ (if (u == t) && counts_ack (participant_of d.cluster (node d past n)) (at_stage n (node d past n) t so o) x
        then with_node x (acks_at n (node d past n) t so o)
        else acks_at n (node d past n) t so o)
    go None is so o number over own = rw (is, no-decision n (node d past n) t so (heard_at d past so (Some (letter n x (message.Ack u))) o) is, no-decision n (node d past n) t so o is, no-commit (participant_of d.cluster (node d past n)) (open_at n (node d past n) so o) [] x) (if-false (u == t) _ [])
    go (Some y) is None o number over own = grind arith
    go (Some y) is (Some s) None number over own = grind (arith, nat_tests)
    go (Some y) is (Some s) (Some z) number over own =
        let same : s.home ≡ n = grind (arith, nat_tests) in
        let kept : z.lost ≡ false = grind (arith, nat_tests) in
        let at : undone s.number (node d past s.home).journal ≡ Some y = rw (number s refl, same) is in
        rw (← same, ← number s refl) (ack-home d past x u s z y kept (over s refl) at)

-- ---- the view

-- the view of n behind a message from x
pub step-got : (d : DocumentData) (past : List Act) (n x : NodeId) (m : ℕ) (said : Message)
    → sent_at m (sent past) ≡ Some (letter n x said) → OwnDecisions d past n
    → view d (act.Got m ∷ past) n ≡ heard_view (view d past n) x said
step-got d past n x m (message.Vote u (ballot.Yes p)) is own = same-view _ _ refl refl refl refl
    (λ t. rw is (vote-desk d past n x u t p (script_of t d.scripts) (story d past t) (λ s at. script-number t d.scripts s at) (λ s at. over-there d past t s at)))
    (λ t. rw is (vote-acks d past n x u t p (script_of t d.scripts) (story d past t)))
step-got d past n x m (message.Ack u) is own = same-view _ _ refl refl refl refl
    (λ t. rw is (ack-desk d past n x u (script_of t d.scripts) (story d past t)))
    (λ t. rw is (ack-acks d past n x u t (script_of t d.scripts) (story d past t) (λ s at. script-number t d.scripts s at) (λ s at. over-there d past t s at) (own t)))
step-got d past n x m said is own = same-view _ _ refl refl refl refl
    (λ t. rw (is, heard-nothing d past (script_of t d.scripts) n x said (story d past t) (λ s. refl)) refl)
    (λ t. rw (is, heard-nothing d past (script_of t d.scripts) n x said (story d past t) (λ s. refl)) refl)
