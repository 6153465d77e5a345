-- No reply was got for the operation that an open transaction reads.
use Rattle.grid_laws.proofs.RowOuts.{kept-first}
use Rattle.grid_laws.proofs.DueActs.{due-before}
use Rattle.cause_laws.proofs.Ends.{HomeAndPart, sent-ends}
use Rattle.cause_laws.proofs.Events.{Event, run-holds}
use Rattle.cause_laws.proofs.OpenStages.{IsGetting, event-getting, got-ungot, none_got, one_got, stage-open}
use Rattle.cause_laws.proofs.RepliesAwaited.{Came, HasTaken, reply-came, taken-later}
use Rattle.cause_laws.proofs.Settled.{is_settled, settled-later}
use Rattle.cause_laws.proofs.Starts.{start-none}
use Rattle.grid_laws.proofs.Causes.{AllDue}
use Rattle.grid_laws.proofs.DueAnswers.{story-taken, with_reply}
use Rattle.grid_laws.proofs.Frames.{same-number}
use Rattle.grid_laws.proofs.Snapshots.{OfStory}
use Rattle.grid_laws.proofs.Stages.{story-quiet}
use Rattle.script_runs.proofs.Walks.{taken-new, waiting-open}
use Rattle.grid_model.specs.Advances.{advance}
use Rattle.grid_model.specs.Excuses.{has_got, is_reply_of, passes}
use Rattle.grid_model.specs.Documents.{DocumentData, IsOne}
use Rattle.grid_model.specs.Fitness.{is_fit, is_fit_at}
use Rattle.grid_model.specs.Histories.{after, sent, sent_at}
use Rattle.grid_model.specs.Nodes.{is_home_in, script_of}
use Rattle.grid_model.specs.Rows.{answer, reply_outs}
use Rattle.grid_model.specs.Runs.{IsRun}
use Rattle.grid_model.specs.Schedules.{kept, next_number, numbered}
use Rattle.grid_model.specs.Stories.{story, told}
use Rattle.script_runs.specs.Waits.{value_taken, waiting}
use Rattle.grid_model.specs.Views.{Open, Reads, View, open_of, open_stage, stage, view, participant}
use Rattle.grid_model.specs.declared.acts.Act.TheVariants as act
use Rattle.grid_model.specs.declared.acts.Act.{Act}
use Rattle.grid_model.specs.declared.events.Out.TheVariants as out
use Rattle.grid_model.specs.declared.events.Out.{Out}
use Rattle.grid_model.specs.declared.messages.Envelope.{Envelope}
use Rattle.grid_model.specs.declared.messages.Message.TheVariants as message
use Rattle.grid_model.specs.declared.messages.Message.{Message}
use Rattle.grid_model.specs.declared.messages.ReadRep.{ReadRep}
use Rattle.grid_model.specs.declared.stories.Story.{Story}
use Rattle.score_base.specs.declared.ids.NodeId.{NodeId}
use Rattle.score_base.specs.declared.ids.TxId.{TxId}
use Rattle.score_base.specs.declared.ids.Value.{Value}
use Rattle.script_lang.specs.Scripts.{ScriptData}
use Rattle.std.proofs.Common.{Bool, List, None, Option, Some, [], ap, arith, false, inl, inr, refl, subst, sym, true, ℕ, ◌||◌, ◌∙◌, ◌∷◌, ◌≡◌, ◌⊎◌}
use Rattle.std.proofs.lemmas.Bool.Decides.{nat_tests}
use Rattle.std.proofs.lemmas.Bool.{and_parts, or_cases}
use Rattle.std.specs.Prelude.{if◌then◌else◌, is_some, ◌==◌}

-- each reply that was got is of a transaction that is settled, or that has the value
abbrev RepliesTaken : DocumentData → List Act → Type 0
RepliesTaken d past =
    (s : ScriptData) (j : ℕ) → script_of s.number d.scripts ≡ Some s
    → has_got (λ x y said. is_reply_of s.number j said) past ≡ true
    → (is_settled d past s ≡ true) ⊎ HasTaken d past s.number j

later-taken : (d : DocumentData) (past acts : List Act) (s : ScriptData) (j : ℕ) → AllDue d (after past acts)
    → (is_settled d past s ≡ true) ⊎ HasTaken d past s.number j
    → (is_settled d (after past acts) s ≡ true) ⊎ HasTaken d (after past acts) s.number j
later-taken d past acts s j due (inl settled) = inl (settled-later d past acts s due settled)
later-taken d past acts s j due (inr taken) = inr (taken-later d past acts s.number j due taken)

-- ---- the reply that is got

-- what is answered to a fit reply by a home that reads its operation
reply-taken : (d : DocumentData) (past : List Act) (m : ℕ) (n x : NodeId) (b : Bool) (q : ReadRep) (o : Open)
    → stage (view d past n) q.t ≡ Reads o q.op → is_fit n (view d past n) x (message.ReadRep q) ≡ true
    → (rest : List Act) × (numbered m n (kept b n (answer n (view d past n) x (message.ReadRep q)))
    ≡ act.Taken q.t q.op q.sid q.value ∷ rest)
reply-taken d past m n x b q o e fit =
    let v : View = view d past n in
    let os : List Out = advance d.cluster (with_reply q o) q.op in
    let is : answer n v x (message.ReadRep q) ≡ out.Act (act.Taken q.t q.op q.sid q.value) ∷ os = fit-answer (is_fit_at n (participant v) (stage v q.t) x (message.ReadRep q)) fit (reply_outs d.cluster q (stage v q.t)) ∙ ap (reply_outs d.cluster q) e ∙ same-op (q.op == q.op) (same-number q.op) (out.Act (act.Taken q.t q.op q.sid q.value) ∷ os) in
    (numbered m n (kept b n os), ap (λ z. numbered m n (kept b n z)) is ∙ kept-first m n b (act.Taken q.t q.op q.sid q.value) os refl)
  where
    fit-answer : (c : Bool) → c ≡ true → (os : List Out) → (if c then os else []) ≡ os
    fit-answer true h os = refl
    fit-answer false h os = cc

    same-op : (c : Bool) → c ≡ true → (os : List Out) → (if c then os else []) ≡ os
    same-op true h os = refl
    same-op false h os = cc

story-got : (d : DocumentData) (past : List Act) (m : ℕ) (x n : NodeId) (q : ReadRep) (y : Story)
    → sent_at m (sent past) ≡ Some (record { from = x; to = n; message = message.ReadRep q })
    → story d past q.t ≡ Some y → story d (act.Got m ∷ past) q.t ≡ Some y
story-got d past m x n q y is told = story-quiet d past m x n (message.ReadRep q) q.t is refl ∙ told

taken-now : (d : DocumentData) (past : List Act) (q : ReadRep) (x : Story) → story d past q.t ≡ Some x
    → value_taken q.op x.progress.values ≡ None → HasTaken d (act.Taken q.t q.op q.sid q.value ∷ past) q.t q.op
taken-now d past q x told none =
    let P : Option Story → Type 0 = λ o. OfStory ⊥ (λ i values. is_some (value_taken q.op values) ≡ true) o in
    subst P (sym (story-taken d past q x told)) (rw (taken-new q.op q.value x.progress.values none) refl)

-- a home that reads takes the reply in the same event
reading-takes : (d : DocumentData) (past : List Act) (m : ℕ) (n x : NodeId) (b : Bool) (q : ReadRep) (s : ScriptData)
    (y : Story) (rest : List Act) → script_of q.t d.scripts ≡ Some s → s.home ≡ n
    → sent_at m (sent past) ≡ Some (record { from = x; to = n; message = message.ReadRep q })
    → is_fit n (view d past n) x (message.ReadRep q) ≡ true
    → rest ≡ numbered (next_number past) n (kept b n (answer n (view d past n) x (message.ReadRep q)))
    → AllDue d (after (act.Got m ∷ past) rest) → story d past q.t ≡ Some y → is_settled d past s ≡ false
    → waiting s.ops y.progress.values ≡ Some q.op → HasTaken d (after (act.Got m ∷ past) rest) q.t q.op
reading-takes d past m n x b q s y rest is home sent fit r due told unsettled reads =
    let e : stage (view d past n) q.t ≡ Reads (open_of s y) q.op = stage-open d past n q.t s y is home told unsettled ∙ ap (λ w. open_stage (open_of s y) w) reads in
    let w = reply-taken d past (next_number past) n x b q (open_of s y) e fit in
    let k : rest ≡ act.Taken q.t q.op q.sid q.value ∷ w.0 = r ∙ w.1 in
    let none : value_taken q.op y.progress.values ≡ None = (waiting-open 1 q.op [] y.progress.values s.ops reads).untaken in
    let now : HasTaken d (act.Taken q.t q.op q.sid q.value ∷ (act.Got m ∷ past)) q.t q.op = taken-now d (act.Got m ∷ past) q y (story-got d past m x n q y sent told) none in
    let P : List Act → Type 0 = λ z. AllDue d (after (act.Got m ∷ past) z) in
    let Q : List Act → Type 0 = λ z. HasTaken d (after (act.Got m ∷ past) z) q.t q.op in
    subst Q (sym k) (taken-later d (act.Taken q.t q.op q.sid q.value ∷ (act.Got m ∷ past)) w.0 q.t q.op (subst P k due) now)

reply-got : (d : DocumentData) (past : List Act) (m : ℕ) (n x : NodeId) (b : Bool) (q : ReadRep) (s : ScriptData)
    (rest : List Act) → IsOne d → script_of q.t d.scripts ≡ Some s
    → sent_at m (sent past) ≡ Some (record { from = x; to = n; message = message.ReadRep q })
    → is_fit n (view d past n) x (message.ReadRep q) ≡ true
    → rest ≡ numbered (next_number past) n (kept b n (answer n (view d past n) x (message.ReadRep q)))
    → AllDue d (after (act.Got m ∷ past) rest)
    → (is_settled d (after (act.Got m ∷ past) rest) s ≡ true) ⊎ HasTaken d (after (act.Got m ∷ past) rest) q.t q.op
reply-got d past m n x b q s rest one is sent fit r due = go (is_settled d past s) (story d past q.t) refl refl came.to
  where
    before : AllDue d past
    before = (due-before d (act.Got m ∷ past) rest due).1

    came : Came d past q.t q.op
    came = reply-came d past m x n q before sent

    same : came.script ≡ s
    same = (let e : Some came.script ≡ Some s = sym came.is ∙ is in cc)

    ends : HomeAndPart d q.t n x
    ends = sent-ends d past one before m (record { from = x; to = n; message = message.ReadRep q }) sent

    home : s.home ≡ n
    home = (let P : Option ScriptData → Type 0 = λ o. is_home_in o n ≡ true in let h : (s.home == n) ≡ true = subst P is ends.home in grind (arith, nat_tests, h))

    go : (c : Bool) (o : Option Story) → is_settled d past s ≡ c → story d past q.t ≡ o → OfStory ⊥
        (λ i values. (is_some (value_taken q.op values) ≡ true) ⊎ (waiting came.script.ops values ≡ Some q.op)) o
        → (is_settled d (after (act.Got m ∷ past) rest) s ≡ true) ⊎ HasTaken d (after (act.Got m ∷ past) rest) q.t q.op
    go true o e told to = inl (settled-later d past (act.Got m ∷ rest) s due e)
    go false None e told to = absurd to
    go false (Some y) e told (inl taken) =
        let P : Option Story → Type 0 = λ o. OfStory ⊥ (λ i values. is_some (value_taken q.op values) ≡ true) o in
        inr (taken-later d past (act.Got m ∷ rest) q.t q.op due (subst P (sym told) taken))
    go false (Some y) e told (inr reads) =
        let there : waiting s.ops y.progress.values ≡ Some q.op = ap (λ (z : ScriptData). waiting z.ops y.progress.values) (sym same) ∙ reads in
        inr (reading-takes d past m n x b q s y rest is home sent fit r due told e there)

-- ---- each event

reply-of : (t : TxId) (j : ℕ) (said : Message) → is_reply_of t j said ≡ true
    → (q : ReadRep) × (said ≡ message.ReadRep q) × (q.t ≡ t) × (q.op ≡ j)
reply-of t j (message.ReadRep q) h = let both = and_parts (q.t == t) (q.op == j) h in let a : (q.t == t) ≡ true = both.0 in let b : (q.op == j) ≡ true = both.1 in (q, refl, grind (arith, nat_tests, a), grind (arith, nat_tests, b))
reply-of t j said h = cc

one-taken : (d : DocumentData) (past : List Act) (m : ℕ) (e : Envelope) (b : Bool) (rest : List Act) (s : ScriptData)
    (j : ℕ) → IsOne d → script_of s.number d.scripts ≡ Some s → sent_at m (sent past) ≡ Some e
    → is_fit e.to (view d past e.to) e.from e.message ≡ true
    → rest ≡ numbered (next_number past) e.to (kept b e.to (answer e.to (view d past e.to) e.from e.message))
    → AllDue d (after (act.Got m ∷ past) rest) → is_reply_of s.number j e.message ≡ true
    → (is_settled d (after (act.Got m ∷ past) rest) s ≡ true) ⊎ HasTaken d (after (act.Got m ∷ past) rest) s.number j
one-taken d past m e b rest s j one script is fit r due h =
    let w = reply-of s.number j e.message h in
    let n : NodeId = e.to in
    let x : NodeId = e.from in
    let S : Message → Type 0 = λ z. sent_at m (sent past) ≡ Some (record { from = x; to = n; message = z }) in
    let F : Message → Type 0 = λ z. is_fit n (view d past n) x z ≡ true in
    let R : Message → Type 0 = λ z. rest ≡ numbered (next_number past) n (kept b n (answer n (view d past n) x z)) in
    let P : TxId → Type 0 = λ u. script_of u d.scripts ≡ Some s in
    let T : TxId → Type 0 = λ u. (is_settled d (after (act.Got m ∷ past) rest) s ≡ true) ⊎ HasTaken d (after (act.Got m ∷ past) rest) u j in
    let J : ℕ → Type 0 = λ i. (is_settled d (after (act.Got m ∷ past) rest) s ≡ true) ⊎ HasTaken d (after (act.Got m ∷ past) rest) w.0.t i in
    subst T w.2 (subst J w.3 (reply-got d past m n x b w.0 s rest one (subst P (sym w.2) script) (subst S w.1 is) (subst F w.1 fit) (subst R w.1 r) due))

taken-event : (d : DocumentData) (past acts : List Act) → IsOne d → Event d past acts → RepliesTaken d past
    → RepliesTaken d (after past acts)
taken-event d past acts one event all s j script h = go (event-getting d past acts one event)
  where
    p : NodeId → NodeId → Message → Bool
    p = λ x y said. is_reply_of s.number j said

    go : IsGetting d past acts → (is_settled d (after past acts) s ≡ true) ⊎ HasTaken d (after past acts) s.number j
    go (none_got u) = later-taken d past acts s j event.due (all s j script (sym (got-ungot p past acts u) ∙ h))
    go (one_got m e b rest is up r k u fit) =
        let A : List Act → Type 0 = λ z. AllDue d (after past z) in
        let H : List Act → Type 0 = λ z. has_got p (after past z) ≡ true in
        let G : List Act → Type 0 = λ z. (is_settled d (after past z) s ≡ true) ⊎ HasTaken d (after past z) s.number j in
        let E : Option Envelope → Type 0 = λ o. (passes p o || has_got p past) ≡ true in
        let due : AllDue d (after (act.Got m ∷ past) rest) = subst A k event.due in
        subst G (sym k) (elim (or_cases (is_reply_of s.number j e.message) (has_got p past) (subst E is (sym (got-ungot p (act.Got m ∷ past) rest u) ∙ subst H k h))) [
          | inl here ↦ one-taken d past m e b rest s j one script is fit r due here
          | inr before ↦ later-taken d past (act.Got m ∷ rest) s j due (all s j script before)
        ])

replies-taken : (d : DocumentData) (h : List Act) → IsOne d → IsRun d d.items h → RepliesTaken d (after [] h)
replies-taken d h one run =
    run-holds d (RepliesTaken d)
    (λ ups s j script got. absurd (not-both (sym (start-none d (λ x y said. is_reply_of s.number j said) ups) ∙ got)))
    (λ past acts event all. taken-event d past acts one event all)
    h one run
  where
    not-both : false ≡ true → ⊥
    not-both e = cc

-- no reply was got for what is read
pub quiet-read : (d : DocumentData) (h : List Act) (s : ScriptData) (x : Story) (j : ℕ) → IsOne d → IsRun d d.items h
    → script_of s.number d.scripts ≡ Some s → story d (after [] h) s.number ≡ Some x
    → is_settled d (after [] h) s ≡ false → waiting s.ops x.progress.values ≡ Some j
    → has_got (λ x y said. is_reply_of s.number j said) (after [] h) ≡ false
quiet-read d h s x j one run script told unsettled reads = go (has_got (λ x y said. is_reply_of s.number j said) (after [] h)) refl
  where
    no-taken : HasTaken d (after [] h) s.number j → ⊥
    no-taken k =
        let P : Option Story → Type 0 = λ o. OfStory ⊥ (λ i values. is_some (value_taken j values) ≡ true) o in
        let none : value_taken j x.progress.values ≡ None = (waiting-open 1 j [] x.progress.values s.ops reads).untaken in
        let some : is_some (value_taken j x.progress.values) ≡ true = subst P told k in
        not-some (value_taken j x.progress.values) none some
      where
        not-some : (o : Option Value) → o ≡ None → is_some o ≡ true → ⊥
        not-some None e f = cc
        not-some (Some v) e f = cc

    go : (b : Bool) → has_got (λ x y said. is_reply_of s.number j said) (after [] h) ≡ b → b ≡ false
    go false e = refl
    go true e = elim (replies-taken d h one run s j script e) [
      | inl settled ↦ cc
      | inr taken ↦ absurd (no-taken taken)
    ]
