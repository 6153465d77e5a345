-- What stands behind the acts of one event more.
use Rattle.std.proofs.Common.{◌≡◌, ℕ, ◌+◌, Bool, true, false, List, [], ◌∷◌, ◌++◌, Option, Some, refl, sym, ap, subst, ◌∙◌}
use Rattle.std.proofs.lemmas.List.{append_assoc, append-nil}
use Rattle.score_base.specs.declared.ids.NodeId.{NodeId}
use Rattle.score_base.specs.declared.records.Record.{Record}
use Rattle.grid_model.specs.declared.acts.Act.{Act}
use Rattle.grid_model.specs.declared.acts.Act.TheVariants as act
use Rattle.grid_model.specs.declared.events.Event.{Event}
use Rattle.grid_model.specs.declared.events.Event.TheVariants as event
use Rattle.grid_model.specs.declared.events.Out.{Out}
use Rattle.grid_model.specs.declared.events.Out.TheVariants as out
use Rattle.grid_model.specs.declared.messages.Envelope.{Envelope}
use Rattle.grid_model.specs.declared.messages.Message.{Message}
use Rattle.grid_model.specs.Documents.{DocumentData}
use Rattle.grid_model.specs.Histories.{after, sent}
use Rattle.grid_model.specs.NextViews.{Comes, brought, next_view}
use Rattle.grid_model.specs.Nodes.{Node, Stops, changed, doubt_of, got, journal, node}
use Rattle.grid_model.specs.Rows.{outs_of}
use Rattle.grid_model.specs.Schedules.{kept, numbered}
use Rattle.grid_model.specs.States.{state_after, state_of, view_in}
use Rattle.grid_model.specs.Views.{View, stage, view}
use Rattle.grid_model.proofs.EventShapes.{after-append}
use Rattle.grid_model.proofs.NextSteps.{event-view}
use Rattle.grid_model.proofs.StateLaws.{state-more}
use Rattle.grid_model.proofs.ViewSteps.{here}
use Rattle.grid_laws.proofs.RowOuts.{Pass, is_of_row, pass-answer, pass-more}
use Rattle.node_core.specs.Heads.{head_of as head_in}
use Rattle.node_core.specs.Links.{posts}
use Rattle.view_laws.specs.RowActs.{came, envelopes}
use Rattle.view_laws.specs.RowRecords.{RowWrites, nothing, one, compaction, journal_behind}
use Rattle.view_laws.proofs.RowWritings.{is_silent}
use Rattle.view_laws.proofs.SameRecords.{ask-silent, begin-silent, doubt-stands, peer-silent, retry-silent, row-writes, stop-row}

pub came-brought : (past acts : List Act) (m : ℕ) (e : Event) →
    after past (came m e ++ acts) ≡ after (brought m e past) acts
came-brought past acts m (event.Deliver x said) = refl
came-brought past acts m e = refl

pub event-past : (h acts : List Act) (m : ℕ) (e : Event) →
    after [] (h ++ (came m e ++ acts)) ≡ after (brought m e (after [] h)) acts
event-past h acts m e = after-append [] h (came m e ++ acts) ∙ came-brought (after [] h) acts m e

pub view-more : (d : DocumentData) (h acts : List Act) (n : NodeId) →
    view d (after [] (h ++ acts)) n ≡ view_in d (state_after d (state_of d (after [] h)) acts) n
view-more d h acts n = ap (λ st. view_in d st n) (state-more d h acts)

-- ---- messages

sent-one : (past acts : List Act) (a : Act) (es : List Envelope) → sent (a ∷ past) ≡ sent past ++ es →
    envelopes (a ∷ acts) ≡ es ++ envelopes acts → sent (a ∷ past) ++ envelopes acts ≡ sent past ++ envelopes (a ∷ acts)
sent-one past acts a es first all =
    ap (λ q. q ++ envelopes acts) first
    ∙ append_assoc (sent past) es (envelopes acts)
    ∙ ap (λ q. sent past ++ q) (sym all)

pub sent-more : (past acts : List Act) → sent (after past acts) ≡ sent past ++ envelopes acts
sent-more past [] = sym (append-nil (sent past))
sent-more past (act.Sent m x y said ∷ acts) =
    sent-more (act.Sent m x y said ∷ past) acts
    ∙ sent-one past acts (act.Sent m x y said) (record { from = x; to = y; message = said } ∷ []) refl refl
sent-more past (a ∷ acts) = sent-more (a ∷ past) acts

-- no act among the outs of a row sends
abbrev is_unsent : Act → Bool
is_unsent (act.Sent m x y said) = false
is_unsent a = true

numbered-posts : (k : ℕ) (n : NodeId) (os : List Out) → Pass is_unsent os → envelopes (numbered k n os) ≡ posts n os
numbered-posts k n [] h = refl
numbered-posts k n (out.Send to said ∷ os) h =
    ap (λ q. record { from = n; to = to; message = said } ∷ q) (numbered-posts (k + 1) n os h)
numbered-posts k n (out.Act (act.Sent m x y said) ∷ os) h = cc
numbered-posts k n (out.Act a ∷ os) h = numbered-posts k n os h

silent-unsent : (a : Act) → is_silent a ≡ true → is_unsent a ≡ true
silent-unsent (act.Sent m x y said) h = h
silent-unsent a h = refl

row-sends : (n : NodeId) (said : Message) (a : Act) → is_of_row n said a ≡ true → is_unsent a ≡ true
row-sends n said (act.Sent m x y other) h = h
row-sends n said a h = refl

row-unsent : (n : NodeId) (v : View) (e : Event) → Pass is_unsent (outs_of n v e)
row-unsent n v (event.Begin s floor) =
    pass-more is_silent is_unsent silent-unsent (outs_of n v (event.Begin s floor)) (begin-silent n v s floor)
row-unsent n v (event.Deliver x said) = pass-answer is_unsent n v x said (row-sends n said)
row-unsent n v (event.Retry t) =
    pass-more is_silent is_unsent silent-unsent (outs_of n v (event.Retry t)) (retry-silent v.cluster t (stage v t))
row-unsent n v (event.Ask t) =
    pass-more is_silent is_unsent silent-unsent (outs_of n v (event.Ask t)) (ask-silent n v t)
row-unsent n v (event.AskPeer t m) =
    pass-more is_silent is_unsent silent-unsent (outs_of n v (event.AskPeer t m)) (peer-silent n v t m)
row-unsent n v event.Compact = refl

-- the messages of a row are the posts of its outs, whether its record is kept or fails
pub row-posts : (k : ℕ) (n : NodeId) (v : View) (e : Event) (keeps : Bool) →
    envelopes (numbered k n (kept keeps n (outs_of n v e))) ≡ posts n (kept keeps n (outs_of n v e))
row-posts k n v e true = numbered-posts k n (outs_of n v e) (row-unsent n v e)
row-posts k n v e false = go (row-writes n v e)
  where
    go : RowWrites n v e →
        envelopes (numbered k n (kept false n (outs_of n v e))) ≡ posts n (kept false n (outs_of n v e))
    go (nothing same quiet) =
        subst (λ os. envelopes (numbered k n os) ≡ posts n os) (sym quiet)
        (numbered-posts k n (outs_of n v e) (row-unsent n v e))
    go (one y same stops) = subst (λ os. envelopes (numbered k n os) ≡ posts n os) (sym stops) refl
    go (compaction small same stops) = subst (λ os. envelopes (numbered k n os) ≡ posts n os) (sym stops) refl

-- ---- the record is kept

pub kept-view : (d : DocumentData) (h : List Act) (n m k : ℕ) (e : Event) → Comes d (after [] h) n m e →
    view d (after [] (h ++ (came m e ++ numbered k n (outs_of n (view d (after [] h) n) e)))) n
    ≡ next_view n (view d (after [] h) n) e (outs_of n (view d (after [] h) n) e)
kept-view d h n m k e comes =
    ap (λ p. view d p n) (event-past h (numbered k n (outs_of n (view d (after [] h) n) e)) m e)
    ∙ event-view d (after [] h) n m k e comes

-- ---- the record fails

pub stop-acts : (d : DocumentData) (h : List Act) (n m k : ℕ) (e : Event) (x : Record) →
    journal_behind n (view d (after [] h) n) e ≡ x ∷ journal d (after [] h) n →
    h ++ (came m e ++ numbered k n (kept false n (outs_of n (view d (after [] h) n) e)))
    ≡ h ++ (came m e ++ act.Down n (Some (head_in x)) ∷ [])
stop-acts d h n m k e x is =
    ap (λ os. h ++ (came m e ++ numbered k n os)) (stop-row n (view d (after [] h) n) e x is)

brought-node : (d : DocumentData) (past : List Act) (n m : ℕ) (e : Event) →
    node d (brought m e past) n ≡ node d past n
brought-node d past n m (event.Deliver x said) = refl
brought-node d past n m e = refl

stopped-is : (x : Node) (o : Option Record) (y : Record) → (changed (Stops o) x).doubt ≡ Some y →
    changed (Stops o) x ≡ record x { doubt = Some y; held = []; up = false }
stopped-is x o y is = ap (λ z. record x { doubt = z; held = []; up = false }) is

pub stopped-node : (d : DocumentData) (h : List Act) (n m : ℕ) (e : Event) (x : Record) →
    Comes d (after [] h) n m e → journal_behind n (view d (after [] h) n) e ≡ x ∷ journal d (after [] h) n →
    node d (after [] (h ++ (came m e ++ act.Down n (Some (head_in x)) ∷ []))) n
    ≡ record (node d (after [] h) n) { doubt = Some x; held = []; up = false }
stopped-node d h n m e x comes is =
    let past : List Act = after [] h in
    let o : Option Record = doubt_of d (got (brought m e past)) (Some (head_in x)) in
    let stops : node d (act.Down n (Some (head_in x)) ∷ brought m e past) n ≡ changed (Stops o) (node d past n) =
    rw (here n) (ap (changed (Stops o)) (brought-node d past n m e)) in
    let doubt : (changed (Stops o) (node d past n)).doubt ≡ Some x =
    ap (λ (w : Node). w.doubt) (sym stops) ∙ doubt-stands d past n m e x comes is in
    ap (λ p. node d p n) (event-past h (act.Down n (Some (head_in x)) ∷ []) m e)
    ∙ stops
    ∙ stopped-is (node d past n) o x doubt
