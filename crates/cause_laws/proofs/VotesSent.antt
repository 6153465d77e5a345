-- Each Prepare that was got was answered with a vote, or its part stopped in that step, or had ended the transaction.
use Rattle.cause_laws.proofs.AdvanceAsks.{sent-later}
use Rattle.cause_laws.proofs.Events.{Event, run-holds}
use Rattle.cause_laws.proofs.GotSplits.{GotBefore, got-in, got-none-by, got-one-by}
use Rattle.cause_laws.proofs.OpenStages.{IsGetting, event-getting, none_got, one_got}
use Rattle.cause_laws.proofs.Starts.{start-none}
use Rattle.grid_laws.proofs.Frames.{same-number}
use Rattle.grid_model.proofs.Growing.{journal-more}
use Rattle.grid_model.specs.Excuses.{GotAt, began_down, has_got, has_sent, is_prepare_of, is_vote_of}
use Rattle.grid_model.specs.Documents.{DocumentData, IsOne}
use Rattle.grid_model.specs.Fitness.{is_fit, is_fit_at, tx_in}
use Rattle.grid_model.specs.Histories.{after}
use Rattle.journal_words.specs.Journals.{ended}
use Rattle.grid_model.specs.Nodes.{journal}
use Rattle.grid_model.specs.Rows.{answer, judged, prepared_outs, message_outs}
use Rattle.grid_model.specs.Runs.{IsRun}
use Rattle.grid_model.specs.Schedules.{kept, next_number, numbered, start_row}
use Rattle.grid_model.specs.Views.{View, stage, view, participant}
use Rattle.grid_model.specs.declared.acts.Act.TheVariants as act
use Rattle.grid_model.specs.declared.acts.Act.{Act}
use Rattle.grid_model.specs.declared.events.Out.{Out}
use Rattle.grid_model.specs.declared.messages.Envelope.{Envelope}
use Rattle.grid_model.specs.declared.messages.Message.TheVariants as message
use Rattle.grid_model.specs.declared.messages.Message.{Message}
use Rattle.grid_model.specs.declared.messages.Prepare.{Prepare}
use Rattle.score_base.specs.declared.causes.Outcome.{Outcome}
use Rattle.score_base.specs.declared.ids.Ident.{Ident}
use Rattle.score_base.specs.declared.ids.NodeId.{NodeId}
use Rattle.score_base.specs.declared.ids.TxId.{TxId}
use Rattle.score_base.specs.declared.keys.Key.{Key}
use Rattle.score_base.specs.declared.records.Record.TheVariants as record'
use Rattle.score_base.specs.declared.records.Record.{Record}
use Rattle.std.proofs.Common.{Bool, List, None, Option, Some, [], arith, false, inl, inr, refl, subst, sym, true, ℕ, ◌||◌, ◌∙◌, ◌∷◌, ◌≡◌, ◌⊎◌}
use Rattle.std.proofs.lemmas.Bool.Decides.{nat_tests}
use Rattle.std.proofs.lemmas.Bool.{or_cases, or_left, or_right}
use Rattle.std.specs.Prelude.{if◌then◌else◌, is_some, ◌&&◌, ◌==◌}

-- ---- the row of a Prepare

-- these acts, the newest first, have the vote of n on t, or began with a stop in a record
abbrev pub is_voted : NodeId → TxId → List Act → Bool
is_voted n t later = began_down n later || has_sent (λ x y said. x == n && is_vote_of t said) later

voted-judged : (n x : NodeId) (t : TxId) (u : Option TxId) (y : Option (Key × Ident)) (p : Ident) (m : ℕ) (b : Bool)
    → is_voted n t (after [] (numbered m n (kept b n (judged n x t u y p)))) ≡ true
voted-judged n x t (Some u) y p m true = rw (same-number n, same-number t) refl
voted-judged n x t (Some u) y p m false = rw (same-number n, same-number t) refl
voted-judged n x t None (Some y) p m true = rw (same-number n, same-number t) refl
voted-judged n x t None (Some y) p m false = rw (same-number n, same-number t) refl
voted-judged n x t None None p m true = rw (same-number n, same-number t) refl
voted-judged n x t None None p m false = rw (same-number n) refl

voted-row : (n x : NodeId) (t : TxId) (o : Option Outcome) (mine : Option Ident) (u : Option TxId)
    (y : Option (Key × Ident)) (p : Ident) (m : ℕ) (b : Bool) → o ≡ None
    → is_voted n t (after [] (numbered m n (kept b n (prepared_outs n x t o mine u y p)))) ≡ true
voted-row n x t (Some o) mine u y p m b e = cc
voted-row n x t None (Some q) u y p m true e = rw (same-number n, same-number t) refl
voted-row n x t None (Some q) u y p m false e = rw (same-number n, same-number t) refl
voted-row n x t None None u y p m b e = voted-judged n x t u y p m b

-- ---- it stays so

down-more : (n : NodeId) (a b : Act) (xs : List Act) → began_down n (a ∷ (b ∷ xs)) ≡ began_down n (b ∷ xs)
down-more n (act.Down m (Some h)) b xs = refl
down-more n (act.Down m None) b xs = refl
down-more n a b xs = refl

down-stays : (n : NodeId) (a : Act) (xs : List Act) → began_down n xs ≡ true → began_down n (a ∷ xs) ≡ true
down-stays n a [] h = cc
down-stays n a (b ∷ xs) h = down-more n a b xs ∙ h

voted-later : (n : NodeId) (t : TxId) (more acts : List Act) → is_voted n t more ≡ true
    → is_voted n t (after more acts) ≡ true
voted-later n t more [] h = h
voted-later n t more (a ∷ acts) h = voted-later n t (a ∷ more) acts (elim (or_cases (began_down n more) (has_sent (λ x y said. x == n && is_vote_of t said) more) h) [
  | inl down ↦ or_left (began_down n (a ∷ more)) (has_sent (λ x y said. x == n && is_vote_of t said) (a ∷ more)) (down-stays n a more down)
  | inr sends ↦ or_right (began_down n (a ∷ more)) (has_sent (λ x y said. x == n && is_vote_of t said) (a ∷ more)) (sent-later (λ x y said. x == n && is_vote_of t said) more (a ∷ []) sends)
])

ended-stays : (t : TxId) (x : Record) (r : List Record) → is_some (ended t r) ≡ true → is_some (ended t (x ∷ r)) ≡ true
ended-stays t (record'.Ended u o) r h = go (u == t)
  where
    go : (b : Bool) → is_some (if b then Some o else ended t r) ≡ true
    go true = refl
    go false = h
ended-stays t (record'.Prepared u home ns sid p rs ws) r h = h
ended-stays t (record'.Decided u f ns) r h = h
ended-stays t (record'.Ceiling c) r h = h
ended-stays t (record'.Closed u) r h = h

ended-later : (d : DocumentData) (past acts : List Act) (n : NodeId) (t : TxId)
    → is_some (ended t (journal d past n)) ≡ true → is_some (ended t (journal d (after past acts) n)) ≡ true
ended-later d past [] n t h = h
ended-later d past (a ∷ acts) n t h = ended-later d (a ∷ past) acts n t (journal-more (λ r. is_some (ended t r) ≡ true) (λ x r k. ended-stays t x r k) d past a n h)

-- ---- each event

-- each Prepare that was got
abbrev pub PreparesAnswered : DocumentData → List Act → Type 0
PreparesAnswered d past =
    (t : TxId) (n : NodeId) (later : List Act) → GotAt (λ x y said. is_prepare_of t said) past n later
    → (is_voted n t later ≡ true) ⊎ (is_some (ended t (journal d past n)) ≡ true)

prepare-of : (t : TxId) (said : Message) → is_prepare_of t said ≡ true
    → (q : Prepare) × (said ≡ message.Prepare q) × (q.t ≡ t)
prepare-of t (message.Prepare q) h = (q, refl, grind (arith, nat_tests, h))
prepare-of t said h = cc

-- a fit message is answered by its row
pub fit-row : (n x : NodeId) (v : View) (said : Message) → is_fit n v x said ≡ true
    → answer n v x said ≡ message_outs n (participant v) v.held (stage v (tx_in said)) x said
fit-row n x v said h = go (is_fit_at n (participant v) (stage v (tx_in said)) x said) h
  where
    go : (b : Bool) → b ≡ true → (if b then message_outs n (participant v) v.held (stage v (tx_in said)) x said else [])
        ≡ message_outs n (participant v) v.held (stage v (tx_in said)) x said
    go true e = refl
    go false e = cc

now-voted : (d : DocumentData) (past : List Act) (m : ℕ) (n x : NodeId) (b : Bool) (q : Prepare)
    → is_fit n (view d past n) x (message.Prepare q) ≡ true → (o : Option Outcome) → ended q.t (journal d past n) ≡ o
    → (is_voted n q.t (after [] (numbered m n (kept b n (answer n (view d past n) x (message.Prepare q))))) ≡ true)
    ⊎ (is_some (ended q.t (journal d past n)) ≡ true)
now-voted d past m n x b q fit (Some o) e = inr (rw e refl)
now-voted d past m n x b q fit None e =
    let P : List Out → Type 0 = λ os. is_voted n q.t (after [] (numbered m n (kept b n os))) ≡ true in
    inl (subst P (sym (fit-row n x (view d past n) (message.Prepare q) fit)) (voted-row n x q.t (ended q.t (journal d past n)) _ _ _ _ m b e))

just-voted : (d : DocumentData) (past acts rest : List Act) (m : ℕ) (e : Envelope) (b : Bool) (t : TxId)
    → is_fit e.to (view d past e.to) e.from e.message ≡ true
    → rest ≡ numbered (next_number past) e.to (kept b e.to (answer e.to (view d past e.to) e.from e.message))
    → acts ≡ act.Got m ∷ rest → is_prepare_of t e.message ≡ true
    → (is_voted e.to t (after [] rest) ≡ true) ⊎ (is_some (ended t (journal d (after past acts) e.to)) ≡ true)
just-voted d past acts rest m e b t fit r k h =
    let w = prepare-of t e.message h in
    let n : NodeId = e.to in
    let x : NodeId = e.from in
    let F : Message → Type 0 = λ z. is_fit n (view d past n) x z ≡ true in
    let R : Message → Type 0 = λ z. rest ≡ numbered (next_number past) n (kept b n (answer n (view d past n) x z)) in
    let T : TxId → Type 0 = λ u. (is_voted n u (after [] rest) ≡ true) ⊎ (is_some (ended u (journal d (after past acts) n)) ≡ true) in
    let here : rest ≡ numbered (next_number past) n (kept b n (answer n (view d past n) x (message.Prepare w.0))) = subst R w.1 r in
    let L : List Act → Type 0 = λ z. is_voted n w.0.t (after [] z) ≡ true in
    subst T w.2 (elim (now-voted d past (next_number past) n x b w.0 (subst F w.1 fit) (ended w.0.t (journal d past n)) refl) [
      | inl voted ↦ inl (subst L (sym here) voted)
      | inr over ↦ inr (ended-later d past acts n w.0.t over)
    ])

answered-event : (d : DocumentData) (past acts : List Act) → IsOne d → Event d past acts → PreparesAnswered d past
    → PreparesAnswered d (after past acts)
answered-event d past acts one event all t n later g = go (event-getting d past acts one event)
  where
    p : NodeId → NodeId → Message → Bool
    p = λ x y said. is_prepare_of t said

    Goal : Type 0
    Goal = (is_voted n t later ≡ true) ⊎ (is_some (ended t (journal d (after past acts) n)) ≡ true)

    before : GotBefore p past acts n later → Goal
    before w =
        let P : List Act → Type 0 = λ z. is_voted n t z ≡ true in
        elim (all t n w.0 w.1) [
          | inl voted ↦ inl (subst P (sym w.2) (voted-later n t w.0 acts voted))
          | inr over ↦ inr (ended-later d past acts n t over)
        ]

    go : IsGetting d past acts → Goal
    go (none_got u) = before (got-none-by p past acts n later u g)
    go (one_got m e b rest is up r k u fit) = elim (got-one-by p past acts rest m e n later is k u g) [
      | inl w ↦ before w
      | inr w ↦
          let V : NodeId → Type 0 = λ k. (is_voted k t later ≡ true) ⊎ (is_some (ended t (journal d (after past acts) k)) ≡ true) in
          let L : List Act → Type 0 = λ z. (is_voted e.to t z ≡ true) ⊎ (is_some (ended t (journal d (after past acts) e.to)) ≡ true) in
          subst V w.1 (subst L (sym w.0) (just-voted d past acts rest m e b t fit r k w.2))
    ]

-- what no act got, none got at this place
pub no-got-at : (p : NodeId → NodeId → Message → Bool) (past : List Act) (n : NodeId) (later : List Act)
    → has_got p past ≡ false → GotAt p past n later → ⊥
no-got-at p past n later h g = let e = got-in p past n later g in (let f : false ≡ true = sym h ∙ e in not-both f)
  where
    not-both : false ≡ true → ⊥
    not-both e = cc

-- at the end of a run
pub prepares-answered : (d : DocumentData) (h : List Act) → IsOne d → IsRun d d.items h
    → PreparesAnswered d (after [] h)
prepares-answered d h one run =
    run-holds d (PreparesAnswered d)
    (λ ups t n later g. absurd (no-got-at (λ x y said. is_prepare_of t said) (after [] (start_row d.cluster.nodes ups)) n later (start-none d (λ x y said. is_prepare_of t said) ups) g))
    (λ past acts event all. answered-event d past acts one event all)
    h one run
