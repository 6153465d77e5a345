-- Each read request that was got was answered, or its server stopped, or the read is held there.
use Rattle.cause_laws.proofs.AdvanceAsks.{sent-later}
use Rattle.cause_laws.proofs.Events.{Event, run-holds}
use Rattle.cause_laws.proofs.GotSplits.{GotBefore, got-none-by, got-one-by}
use Rattle.cause_laws.proofs.HeldEvents.{EventKept, event-kept, got-row, mine_of}
use Rattle.cause_laws.proofs.HeldNodes.{HoldsWaiting, IsKeptRead, has_read, is_serving, is_waiting_read}
use Rattle.cause_laws.proofs.OpenStages.{IsGetting, event-getting, none_got, one_got}
use Rattle.cause_laws.proofs.Starts.{behind-start, start-none}
use Rattle.cause_laws.proofs.VotesSent.{no-got-at}
use Rattle.grid_model.specs.Excuses.{GotAt, has_sent, has_stopped, is_reply_of, is_request_of}
use Rattle.grid_model.specs.Documents.{DocumentData, IsOne}
use Rattle.grid_model.specs.Histories.{after}
use Rattle.grid_model.specs.Nodes.{Node, Starts, Stays, changed, node, where_at}
use Rattle.grid_model.specs.Rows.{served}
use Rattle.grid_model.specs.Runs.{IsRun, stops}
use Rattle.grid_model.specs.Schedules.{next_number, start_row}
use Rattle.grid_model.specs.declared.acts.Act.TheVariants as act
use Rattle.grid_model.specs.declared.acts.Act.{Act}
use Rattle.grid_model.specs.declared.messages.Message.TheVariants as message
use Rattle.grid_model.specs.declared.messages.Message.{Message}
use Rattle.grid_model.specs.declared.stories.HeldRead.{HeldRead}
use Rattle.placement.specs.Places.{holds}
use Rattle.score_base.specs.declared.ids.NodeId.{NodeId}
use Rattle.score_base.specs.declared.ids.TxId.{TxId}
use Rattle.std.proofs.Common.{Bool, List, [], false, inl, inr, refl, subst, sym, true, ℕ, ◌||◌, ◌∷◌, ◌≡◌}
use Rattle.std.proofs.lemmas.Bool.{or_cases, or_left, or_right}
use Rattle.std.specs.List.{list_all, list_any}
use Rattle.std.specs.Prelude.{◌&&◌, ◌==◌}

-- n answered operation j of t, or stopped, in these acts, the newest first
abbrev pub is_served : NodeId → TxId → ℕ → List Act → Bool
is_served n t j later = has_sent (λ x y said. x == n && is_reply_of t j said) later || has_stopped n later

stopped-single : (n : NodeId) (a : Act) (more : List Act) → has_stopped n more ≡ true → has_stopped n (a ∷ more) ≡ true
stopped-single n (act.Down m h) more e = or_right (m == n) (has_stopped n more) e
stopped-single n a more e = e

served-single : (n : NodeId) (t : TxId) (j : ℕ) (a : Act) (more : List Act) → is_served n t j more ≡ true
    → is_served n t j (a ∷ more) ≡ true
served-single n t j a more h = elim (or_cases (has_sent (λ x y said. x == n && is_reply_of t j said) more) (has_stopped n more) h) [
  | inl sends ↦ or_left (has_sent (λ x y said. x == n && is_reply_of t j said) (a ∷ more)) (has_stopped n (a ∷ more)) (sent-later (λ x y said. x == n && is_reply_of t j said) more (a ∷ []) sends)
  | inr stops ↦ or_right (has_sent (λ x y said. x == n && is_reply_of t j said) (a ∷ more)) (has_stopped n (a ∷ more)) (stopped-single n a more stops)
]

served-later : (n : NodeId) (t : TxId) (j : ℕ) (more acts : List Act) → is_served n t j more ≡ true
    → is_served n t j (after more acts) ≡ true
served-later n t j more [] h = h
served-later n t j more (a ∷ acts) h = served-later n t j (a ∷ more) acts (served-single n t j a more h)

served-now : (n : NodeId) (t : TxId) (j : ℕ) (a : Act) (more : List Act) → is_serving n t j a ≡ true
    → is_served n t j (a ∷ more) ≡ true
served-now n t j (act.Sent m x y said) more h = or_left (has_sent (λ x y said. x == n && is_reply_of t j said) (act.Sent m x y said ∷ more)) (has_stopped n more) (or_left (x == n && is_reply_of t j said) (has_sent (λ x y said. x == n && is_reply_of t j said) more) h)
served-now n t j (act.Down m o) more h = or_right (has_sent (λ x y said. x == n && is_reply_of t j said) more) ((m == n) || has_stopped n more) (or_left (m == n) (has_stopped n more) h)
served-now n t j a more h = cc

served-acts : (n : NodeId) (t : TxId) (j : ℕ) (more acts : List Act) → list_any (is_serving n t j) acts ≡ true
    → is_served n t j (after more acts) ≡ true
served-acts n t j more [] h = cc
served-acts n t j more (a ∷ acts) h = elim (or_cases (is_serving n t j a) (list_any (is_serving n t j) acts) h) [
  | inl here ↦ served-later n t j (a ∷ more) acts (served-now n t j a more here)
  | inr later ↦ served-acts n t j (a ∷ more) acts later
]

-- ---- each event

-- held reads wait, and each request that was got was served or is held
pub record ReadsHeld (d : DocumentData) (past : List Act) : Type 0 where
  pub holds : (n : NodeId) → HoldsWaiting (node d past n)
  pub served : (t : TxId) (j : ℕ) (n : NodeId) (later : List Act)
      → GotAt (λ x y said. is_request_of t j said) past n later
      → (is_served n t j later || has_read t j (node d past n).held) ≡ true

mine-is : (t : TxId) (j : ℕ) (said : Message) → is_request_of t j said ≡ true → mine_of said t j ≡ true
mine-is t j (message.ReadReq q) h = h
mine-is t j said h = cc

held-event : (d : DocumentData) (past acts : List Act) → IsOne d → Event d past acts → ReadsHeld d past
    → ReadsHeld d (after past acts)
held-event d past acts one event all = record { holds = left.holds; served = λ t j n later g. served t j n later g (event-getting d past acts one event) }
  where
    left : EventKept d past acts
    left = event-kept d past acts event all.holds

    served : (t : TxId) (j : ℕ) (n : NodeId) (later : List Act)
        → GotAt (λ x y said. is_request_of t j said) (after past acts) n later → IsGetting d past acts
        → (is_served n t j later || has_read t j (node d (after past acts) n).held) ≡ true
    served t j n later g getting = go getting
      where
        p : NodeId → NodeId → Message → Bool
        p = λ x y said. is_request_of t j said

        Goal : Type 0
        Goal = (is_served n t j later || has_read t j (node d (after past acts) n).held) ≡ true

        before : GotBefore p past acts n later → Goal
        before w =
            let P : List Act → Type 0 = λ z. (is_served n t j z || has_read t j (node d (after past acts) n).held) ≡ true in
            subst P (sym w.2) (elim (or_cases (is_served n t j w.0) (has_read t j (node d past n).held) (all.served t j n w.0 w.1)) [
              | inl served ↦ or_left (is_served n t j (after w.0 acts)) (has_read t j (node d (after past acts) n).held) (served-later n t j w.0 acts served)
              | inr holds ↦ elim (or_cases (list_any (is_serving n t j) acts) (has_read t j (node d (after past acts) n).held) (left.kept n t j holds)) [
                | inl serves ↦ or_left (is_served n t j (after w.0 acts)) (has_read t j (node d (after past acts) n).held) (served-acts n t j w.0 acts serves)
                | inr still ↦ or_right (is_served n t j (after w.0 acts)) (has_read t j (node d (after past acts) n).held) still
              ]
            ])

        go : IsGetting d past acts → Goal
        go (none_got u) = before (got-none-by p past acts n later u g)
        go (one_got m e b rest is up r k u fit) = elim (got-one-by p past acts rest m e n later is k u g) [
          | inl w ↦ before w
          | inr w ↦
              let row = got-row d past m (next_number past) e.to e.from e.message b is fit up (all.holds e.to) in
              let R : List Act → Type 0 = λ z. IsKeptRead d (act.Got m ∷ past) z e.to t j in
              let here : IsKeptRead d (act.Got m ∷ past) rest e.to t j = subst R (sym r) (row.kept t j (or_left (mine_of e.message t j) (has_read t j (node d past e.to).held) (mine-is t j e.message w.2))) in
              let A : List Act → Type 0 = λ z. (is_served e.to t j (after [] rest) || has_read t j (node d (after past z) e.to).held) ≡ true in
              let V : NodeId → Type 0 = λ i. (is_served i t j (after [] rest) || has_read t j (node d (after past acts) i).held) ≡ true in
              let L : List Act → Type 0 = λ z. (is_served n t j z || has_read t j (node d (after past acts) n).held) ≡ true in
              subst L (sym w.0) (subst V w.1 (subst A (sym k) (elim (or_cases (list_any (is_serving e.to t j) rest) (has_read t j (node d (after (act.Got m ∷ past) rest) e.to).held) here) [
                | inl serves ↦ or_left (is_served e.to t j (after [] rest)) (has_read t j (node d (after (act.Got m ∷ past) rest) e.to).held) (served-acts e.to t j [] rest serves)
                | inr still ↦ or_right (is_served e.to t j (after [] rest)) (has_read t j (node d (after (act.Got m ∷ past) rest) e.to).held) still
              ])))
        ]

-- ---- the start

none-where : (b k : Bool) (x : Node) → x.held ≡ [] → (changed (where_at b (Starts k)) x).held ≡ []
none-where true k x h = h
none-where false k x h = h

still-where : (b : Bool) (x : Node) → x.held ≡ [] → (changed (where_at b Stays) x).held ≡ []
still-where true x h = h
still-where false x h = h

start-held : (d : DocumentData) (ups : NodeId → Bool) (n : NodeId)
    → (node d (after [] (start_row d.cluster.nodes ups)) n).held ≡ []
start-held d ups n =
    behind-start (λ z. (node d z n).held ≡ []) d ups
    (record { opens = λ past m h. none-where (m == n) false (node d past n) h; fails = λ past m h. still-where (m == n) (node d past n) h })
    refl

none-waits : (x : Node) → x.held ≡ [] → HoldsWaiting x
none-waits x h = (let P : List HeldRead → Type 0 = λ hs. list_all (is_waiting_read x.journal) hs ≡ true in record { waits = subst P (sym h) refl; down = λ e. h })

-- at the end of a run
pub reads-held : (d : DocumentData) (h : List Act) → IsOne d → IsRun d d.items h → ReadsHeld d (after [] h)
reads-held d h one run =
    run-holds d (ReadsHeld d)
    (λ ups. record {
      holds = λ n. none-waits (node d (after [] (start_row d.cluster.nodes ups)) n) (start-held d ups n);
      served = λ t j n later g. absurd (no-got-at (λ x y said. is_request_of t j said) (after [] (start_row d.cluster.nodes ups)) n later (start-none d (λ x y said. is_request_of t j said) ups) g);
    })
    (λ past acts event all. held-event d past acts one event all)
    h one run
