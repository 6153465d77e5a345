-- What an event writes, seen from its journal: nothing, one record, or a compaction, and where its row stops.
use Rattle.std.proofs.Common.{◌≡◌, ℕ, true, false, ◌&&◌, List, [], ◌∷◌, ◌++◌, length, Option, Some, None, is_some, refl, sym, ap, subst, ◌∙◌, arith}
use Rattle.std.proofs.lemmas.Bool.{and_parts}
use Rattle.std.proofs.lemmas.List.{append_cancel_right}
use Rattle.score_base.specs.declared.ids.TxId.{TxId}
use Rattle.score_base.specs.declared.ids.NodeId.{NodeId}
use Rattle.score_base.specs.declared.ids.Ident.{Ident}
use Rattle.score_base.specs.declared.records.Record.{Record}
use Rattle.score_base.specs.declared.causes.Outcome.TheVariants as outcome
use Rattle.script_lang.specs.Scripts.{ScriptData}
use Rattle.script_lang.specs.declared.scripts.Op.{Op}
use Rattle.placement.specs.Clusters.{ClusterData}
use Rattle.script_runs.specs.Walks.{op_at}
use Rattle.journal_words.specs.Journals.{home_of, names_part, pending}
use Rattle.journal_words.specs.Small.{AreAlike}
use Rattle.grid_model.specs.declared.acts.Act.{Act}
use Rattle.grid_model.specs.declared.acts.Act.TheVariants as act
use Rattle.grid_model.specs.declared.acts.Head.TheVariants as head
use Rattle.grid_model.specs.declared.events.Event.{Event}
use Rattle.grid_model.specs.declared.events.Event.TheVariants as event
use Rattle.grid_model.specs.declared.events.Out.{Out}
use Rattle.grid_model.specs.declared.events.Out.TheVariants as out
use Rattle.grid_model.specs.declared.messages.Envelope.{Envelope}
use Rattle.grid_model.specs.declared.messages.Message.TheVariants as message
use Rattle.grid_model.specs.Documents.{DocumentData}
use Rattle.grid_model.specs.Nodes.{prepared_by, doubt_of, got, journal, node, record_of}
use Rattle.grid_model.specs.Views.{Open, Stage, Apart, Reads, Collects, Commits, View, participant, stage, view}
use Rattle.grid_model.specs.Advances.{parts_now, request_of, to_node}
use Rattle.grid_model.specs.Fitness.{is_fit_begin}
use Rattle.grid_model.specs.NextViews.{Comes, behind, behind_all, brought, decided_by, envelope_of, next_view, record_by, script_begun, view_heard}
use Rattle.grid_model.specs.Rows.{begin_outs, not_among, not_voted, outs_of, retry_outs}
use Rattle.grid_model.specs.Schedules.{broken, head_of, kept, stopped}
use Rattle.grid_model.proofs.HeardViews.{step-got}
use Rattle.grid_model.proofs.ViewSteps.{at-desk, here}
use Rattle.grid_laws.proofs.RowOuts.{on_act, pass-begin, pass-if, pass-prepares, pass-to_node}
use Rattle.node_core.specs.Heads.{head_of as head_in}
use Rattle.std.specs.List.{list_all}
use Rattle.view_laws.specs.RowRecords.{RowWrites, nothing, one, compaction, journal_behind}
use Rattle.view_laws.proofs.AlikeRows.{alike-outs}
use Rattle.view_laws.proofs.AlikeNext.{alike-next}
use Rattle.view_laws.proofs.RowWritings.{is_silent, Silent, silent-tells, WritesFirst, Writing, none, first, answer-writing}

-- ---- silent outs

silent-record : (e : Option Envelope) (v : View) (a : Act) → is_silent a ≡ true → record_by e v (out.Act a) ≡ None
silent-record e v (act.Prepared n t p) h = cc
silent-record e v (act.Ended n t o) h = cc
silent-record e v (act.Ceiling n c) h = cc
silent-record e v (act.Decided t f) h = cc
silent-record e v (act.Closed t) h = cc
silent-record e v a h = refl

silent-head : (a : Act) → is_silent a ≡ true → head_of a ≡ None
silent-head (act.Prepared n t p) h = cc
silent-head (act.Ended n t o) h = cc
silent-head (act.Ceiling n c) h = cc
silent-head (act.Decided t f) h = cc
silent-head (act.Closed t) h = cc
silent-head (act.Compacted n) h = cc
silent-head a h = refl

-- they leave the journal
silent-behind : (e : Option Envelope) (s : Option ScriptData) (v : View) (os : List Out) → Silent os →
    (behind_all e s v os).journal ≡ v.journal
silent-behind e s v [] h = refl
silent-behind e s v (out.Send to said ∷ os) h = silent-behind e s (behind e s v (out.Send to said)) os h
silent-behind e s v (out.Act a ∷ os) h =
    let parts = and_parts (is_silent a) (list_all (on_act is_silent) os) h in
    silent-behind e s (behind e s v (out.Act a)) os parts.1
    ∙ rw (silent-record e v a parts.0) refl

-- no disk can stop them
silent-broken : (n : NodeId) (os : List Out) → Silent os → broken n os ≡ os
silent-broken n [] h = refl
silent-broken n (out.Send to said ∷ os) h = ap (λ q. out.Send to said ∷ q) (silent-broken n os h)
silent-broken n (out.Act a ∷ os) h =
    let parts = and_parts (is_silent a) (list_all (on_act is_silent) os) h in
    ap (λ o. stopped n o (out.Act a) (broken n os)) (silent-head a parts.0)
    ∙ ap (λ q. out.Act a ∷ q) (silent-broken n os parts.1)

-- ---- the events that deliver nothing

pub begin-silent : (n : NodeId) (v : View) (s : ScriptData) (floor : Ident) → Silent (outs_of n v (event.Begin s floor))
begin-silent n v s floor =
    pass-if is_silent (is_fit_begin n v s floor) (begin_outs n (participant v) s floor) []
    (pass-begin is_silent (λ t m sid0. refl) (λ t j w. refl) (λ t. refl) n (participant v) s floor) refl

request-silent : (c : ClusterData) (x : Open) (j q : ℕ) (o : Option Op) → Silent (request_of c x j q o)
request-silent c x j q None = refl
request-silent c x j q (Some o) = pass-to_node is_silent _ _

pub retry-silent : (c : ClusterData) (t : TxId) (g : Stage) → Silent (retry_outs c t g)
retry-silent c t (Reads x j) = request-silent c x j x.progress.turn (op_at x.script.ops j)
retry-silent c t (Collects x) = pass-prepares is_silent c x (not_voted (parts_now c x) x.progress.votes)
retry-silent c t (Commits y acks) = silent-tells t (outcome.Commit y.final) (not_among y.parts acks)
retry-silent c t Apart = refl

pub ask-silent : (n : NodeId) (v : View) (t : TxId) → Silent (outs_of n v (event.Ask t))
ask-silent n v t =
    pass-if is_silent (is_some (pending t v.journal)) (to_node (home_of t v.journal) (message.Ask t)) []
    (pass-to_node is_silent (home_of t v.journal) (message.Ask t)) refl

pub peer-silent : (n : NodeId) (v : View) (t : TxId) (m : NodeId) → Silent (outs_of n v (event.AskPeer t m))
peer-silent n v t m =
    pass-if is_silent (is_some (pending t v.journal) && names_part t m v.journal) (out.Send m (message.AskPeer t) ∷ [])
    [] refl refl

-- ---- the row

heard-journal : (v : View) (e : Event) → (view_heard v e).journal ≡ v.journal
heard-journal v (event.Deliver x said) = refl
heard-journal v e = refl

-- what silent outs, and a record with silent outs behind it, are for the row
silent-row : (n : NodeId) (v : View) (e : Event) → Silent (outs_of n v e) → RowWrites n v e
silent-row n v e h =
    nothing
    (silent-behind (envelope_of n e) (script_begun e) (view_heard v e) (outs_of n v e) h ∙ heard-journal v e)
    (silent-broken n (outs_of n v e) h)

pub first-row : (n : NodeId) (v : View) (e : Event) (os : List Out) (x : Record) → WritesFirst n v e os x →
    ((next_view n v e os).journal ≡ x ∷ v.journal)
    × (kept false n os ≡ out.Act (act.Down n (Some (head_in x))) ∷ [])
first-row n v e os x w =
    let E : Option Envelope = envelope_of n e in
    let S : Option ScriptData = script_begun e in
    let u : View = view_heard v e in (
      ap (λ q. (behind_all E S u q).journal) w.are
          ∙ silent-behind E S (behind E S u (out.Act w.first)) w.rest w.silent
          ∙ rw (w.is) (ap (λ j. x ∷ j) (heard-journal v e)),
      ap (broken n) w.are
          ∙ ap (λ h. stopped n h (out.Act w.first) (broken n w.rest)) w.head,
    )

pub row-writes : (n : NodeId) (v : View) (e : Event) → RowWrites n v e
row-writes n v (event.Begin s floor) = silent-row n v (event.Begin s floor) (begin-silent n v s floor)
row-writes n v (event.Deliver x said) = go (answer-writing n v x said)
  where
    go : Writing n v (event.Deliver x said) (outs_of n v (event.Deliver x said)) →
        RowWrites n v (event.Deliver x said)
    go (none h) = silent-row n v (event.Deliver x said) h
    go (first y w) =
        let known = first-row n v (event.Deliver x said) (outs_of n v (event.Deliver x said)) y w in
        one y known.0 known.1
row-writes n v (event.Retry t) = silent-row n v (event.Retry t) (retry-silent v.cluster t (stage v t))
row-writes n v (event.Ask t) = silent-row n v (event.Ask t) (ask-silent n v t)
row-writes n v (event.AskPeer t m) = silent-row n v (event.AskPeer t m) (peer-silent n v t m)
row-writes n v event.Compact = compaction refl refl refl

-- ---- by the journal

-- a list is not longer than itself
pub never-longer : (x : Record) (r : List Record) → r ≡ x ∷ r → ⊥
never-longer x r e = let long = ap (λ (q : List Record). length q) e in omega (arith, long)

same-first : (x y : Record) (r : List Record) → y ∷ r ≡ x ∷ r → y ≡ x
same-first x y r e = cc

never-silent : (n : NodeId) (v : View) (e : Event) (x : Record) → Silent (outs_of n v e) →
    journal_behind n v e ≡ x ∷ v.journal → ⊥
never-silent n v e x h is =
    never-longer x v.journal
    (sym (silent-behind (envelope_of n e) (script_begun e) (view_heard v e) (outs_of n v e) h ∙ heard-journal v e) ∙ is)

-- views with alike journals write the same record
pub same-record : (n : NodeId) (v : View) (r : List Record) (e : Event) (x : Record) → AreAlike r v.journal →
    journal_behind n (record v { journal = r }) e ≡ x ∷ r → journal_behind n v e ≡ x ∷ v.journal
same-record n v r e x a is =
    let more = alike-next n v r e (outs_of n v e) a in
    let outs : outs_of n (record v { journal = r }) e ≡ outs_of n v e = alike-outs n v r e a in
    let there : journal_behind n (record v { journal = r }) e ≡ more.fresh ++ r =
    ap (λ os. (next_view n (record v { journal = r }) e os).journal) outs ∙ ap (λ (w : View). w.journal) more.view in
    let fresh : more.fresh ≡ x ∷ [] = append_cancel_right more.fresh (x ∷ []) r (sym there ∙ is) in
    more.journal ∙ ap (λ q. q ++ v.journal) fresh

-- the row of a record, where the disk fails
pub stop-row : (n : NodeId) (v : View) (e : Event) (x : Record) → journal_behind n v e ≡ x ∷ v.journal →
    kept false n (outs_of n v e) ≡ out.Act (act.Down n (Some (head_in x))) ∷ []
stop-row n v e x is = go (row-writes n v e)
  where
    go : RowWrites n v e → kept false n (outs_of n v e) ≡ out.Act (act.Down n (Some (head_in x))) ∷ []
    go (nothing same quiet) = absurd (never-longer x v.journal (sym same ∙ is))
    go (one y same stops) =
        stops ∙ ap (λ z. out.Act (act.Down n (Some (head_in z))) ∷ []) (same-first x y v.journal (sym same ∙ is))
    go (compaction e same stops) = absurd (never-longer x v.journal (sym same ∙ is))

-- an event without a record, and no compaction
pub silent-kept : (n : NodeId) (v : View) (e : Event) → (e ≡ event.Compact → ⊥) → journal_behind n v e ≡ v.journal →
    kept false n (outs_of n v e) ≡ outs_of n v e
silent-kept n v e not_small is = go (row-writes n v e)
  where
    go : RowWrites n v e → kept false n (outs_of n v e) ≡ outs_of n v e
    go (nothing same quiet) = quiet
    go (one y same stops) = absurd (never-longer y v.journal (sym is ∙ same))
    go (compaction small same stops) = absurd (not_small small)

-- the first out of an event that writes a record
pub writes-first : (n : NodeId) (v : View) (e : Event) (x : Record) → journal_behind n v e ≡ x ∷ v.journal →
    WritesFirst n v e (outs_of n v e) x
writes-first n v (event.Deliver y said) x is = go (answer-writing n v y said)
  where
    go : Writing n v (event.Deliver y said) (outs_of n v (event.Deliver y said)) →
        WritesFirst n v (event.Deliver y said) (outs_of n v (event.Deliver y said)) x
    go (none h) = absurd (never-silent n v (event.Deliver y said) x h is)
    go (first z w) =
        let known = first-row n v (event.Deliver y said) (outs_of n v (event.Deliver y said)) z w in
        subst (WritesFirst n v (event.Deliver y said) (outs_of n v (event.Deliver y said)))
        (same-first x z v.journal (sym known.0 ∙ is)) w
writes-first n v (event.Begin s floor) x is =
    absurd (never-silent n v (event.Begin s floor) x (begin-silent n v s floor) is)
writes-first n v (event.Retry t) x is =
    absurd (never-silent n v (event.Retry t) x (retry-silent v.cluster t (stage v t)) is)
writes-first n v (event.Ask t) x is = absurd (never-silent n v (event.Ask t) x (ask-silent n v t) is)
writes-first n v (event.AskPeer t m) x is = absurd (never-silent n v (event.AskPeer t m) x (peer-silent n v t m) is)
writes-first n v event.Compact x is = absurd (never-longer x v.journal is)

-- ---- the record in doubt

-- the record of an act of n behind what the event brought, by its head
doubt-by : (d : DocumentData) (past : List Act) (n : NodeId) (e : Option Envelope) (a : Act) (y : Record) →
    ((t : TxId) (p : Ident) → prepared_by e t p ≡ Some y → prepared_by (got past) t p ≡ Some y) →
    record_by e (view d past n) (out.Act a) ≡ Some y → doubt_of d (got past) (head_of a) ≡ Some y
doubt-by d past n e (act.Prepared k t p) y same by = same t p by
doubt-by d past n e (act.Ended k t o) y same by = by
doubt-by d past n e (act.Ceiling k c) y same by = by
doubt-by d past n e (act.Closed t) y same by = by
doubt-by d past n e (act.Decided t f) y same by = go ((view d past n).desk t) refl by
  where
    go : (o : Option Open) → (view d past n).desk t ≡ o → decided_by o d.cluster t f ≡ Some y →
        record_of d (got past) (head.Decided t f) ≡ Some y
    go None at by = cc
    go (Some q) at by = rw ((at-desk d past n t q at).script) by
doubt-by d past n e a y same by = cc

brought-view : (d : DocumentData) (past : List Act) (n m : ℕ) (e : Event) → Comes d past n m e →
    view d (brought m e past) n ≡ view_heard (view d past n) e
brought-view d past n m (event.Deliver x said) comes = step-got d past n x m said comes.0 comes.1
brought-view d past n m e comes = refl

brought-prepared : (d : DocumentData) (past : List Act) (n m : ℕ) (e : Event) → Comes d past n m e → (y : Record)
    (t : TxId) (p : Ident) → prepared_by (envelope_of n e) t p ≡ Some y →
    prepared_by (got (brought m e past)) t p ≡ Some y
brought-prepared d past n m (event.Deliver x said) comes y t p is = rw (comes.0) is
brought-prepared d past n m e comes y t p is = cc

-- the first act of a record means it
pub first-meant : (d : DocumentData) (past : List Act) (n m : ℕ) (e : Event) (os : List Out) (x : Record) →
    Comes d past n m e → (w : WritesFirst n (view d past n) e os x) →
    doubt_of d (got (brought m e past)) (head_of w.first) ≡ Some x
first-meant d past n m e os x comes w =
    doubt-by d (brought m e past) n (envelope_of n e) w.first x (brought-prepared d past n m e comes x)
    (ap (λ u. record_by (envelope_of n e) u (out.Act w.first)) (brought-view d past n m e comes) ∙ w.is)

pub doubt-stands : (d : DocumentData) (past : List Act) (n m : ℕ) (e : Event) (x : Record) → Comes d past n m e →
    journal_behind n (view d past n) e ≡ x ∷ journal d past n →
    (node d (act.Down n (Some (head_in x)) ∷ brought m e past) n).doubt ≡ Some x
doubt-stands d past n m e x comes is =
    let w = writes-first n (view d past n) e x is in
    rw (here n)
    (ap (doubt_of d (got (brought m e past))) (sym w.head)
    ∙ first-meant d past n m e (outs_of n (view d past n) e) x comes w)
