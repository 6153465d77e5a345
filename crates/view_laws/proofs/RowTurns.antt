-- The acts of an event, by the part that the disks of its node have in it.
use Rattle.std.proofs.Common.{◌≡◌, ℕ, Bool, true, false, List, [], ◌∷◌, Option, Some, None, refl, sym, ap, subst, ◌∙◌}
use Rattle.std.proofs.lemmas.Bool.{and_parts}
use Rattle.std.specs.List.{list_all}
use Rattle.score_base.specs.declared.ids.NodeId.{NodeId}
use Rattle.score_base.specs.declared.records.Record.{Record}
use Rattle.score_base.specs.declared.records.Record.TheVariants as record'
use Rattle.grid_model.specs.declared.acts.Act.{Act}
use Rattle.grid_model.specs.declared.acts.Act.TheVariants as act
use Rattle.grid_model.specs.declared.acts.Head.TheVariants as head
use Rattle.grid_model.specs.declared.events.Event.{Event}
use Rattle.grid_model.specs.declared.events.Event.TheVariants as event
use Rattle.grid_model.specs.declared.events.Out.{Out}
use Rattle.grid_model.specs.declared.messages.Envelope.{Envelope}
use Rattle.grid_model.specs.Documents.{DocumentData}
use Rattle.grid_model.specs.Fuses.{is_record_at}
use Rattle.grid_model.specs.Histories.{after}
use Rattle.grid_model.specs.NextViews.{Comes, brought}
use Rattle.grid_model.specs.Nodes.{Writes, change, doubt_of, got, journal, written}
use Rattle.grid_model.specs.Rows.{outs_of}
use Rattle.grid_model.specs.Schedules.{head_of, kept, numbered}
use Rattle.grid_model.specs.Views.{View, stage, view}
use Rattle.grid_laws.proofs.RowOuts.{pass-more, pass-numbered}
use Rattle.node_core.specs.Heads.{head_of as head_in}
use Rattle.view_laws.specs.RowActs.{came}
use Rattle.view_laws.specs.RowRecords.{journal_behind}
use Rattle.view_laws.specs.Turns.{is_quiet, HasTurn, LeavesDisks}
use Rattle.view_laws.proofs.OwnOuts.{is_own_out, own-outs}
use Rattle.view_laws.proofs.QuietActs.{leaves-acts, leaves-none, leaves-turn}
use Rattle.view_laws.proofs.RowWritings.{is_silent, Silent, WritesFirst, Writing, none, first, answer-writing}
use Rattle.view_laws.proofs.SameRecords.{ask-silent, begin-silent, first-meant, first-row, never-longer, peer-silent, retry-silent, silent-kept, writes-first}
use Rattle.view_laws.proofs.Unmoved.{is_own}

pub came-quiet : (m : ℕ) (e : Event) → list_all is_quiet (came m e) ≡ true
came-quiet m (event.Deliver x said) = refl
came-quiet m e = refl

-- ---- an event without a record

silent-quiet : (a : Act) → is_silent a ≡ true → is_quiet a ≡ true
silent-quiet (act.Sent m x y said) h = refl
silent-quiet a h = h

quiet-numbered : (k : ℕ) (n : NodeId) (os : List Out) → Silent os → list_all is_quiet (numbered k n os) ≡ true
quiet-numbered k n os h =
    pass-numbered is_quiet n (λ i y said. refl) k os (pass-more is_silent is_quiet silent-quiet os h)

row-silent : (n : NodeId) (v : View) (e : Event) → (e ≡ event.Compact → ⊥) → journal_behind n v e ≡ v.journal →
    Silent (outs_of n v e)
row-silent n v (event.Deliver x said) other is = go (answer-writing n v x said)
  where
    go : Writing n v (event.Deliver x said) (outs_of n v (event.Deliver x said)) →
        Silent (outs_of n v (event.Deliver x said))
    go (none h) = h
    go (first z w) =
        absurd (never-longer z v.journal
        (sym is ∙ (first-row n v (event.Deliver x said) (outs_of n v (event.Deliver x said)) z w).0))
row-silent n v (event.Begin s floor) other is = begin-silent n v s floor
row-silent n v (event.Retry t) other is = retry-silent v.cluster t (stage v t)
row-silent n v (event.Ask t) other is = ask-silent n v t
row-silent n v (event.AskPeer t m) other is = peer-silent n v t m
row-silent n v event.Compact other is = absurd (other refl)

pub row-quiet : (k : ℕ) (n : NodeId) (v : View) (e : Event) (keeps : Bool) → (e ≡ event.Compact → ⊥) →
    journal_behind n v e ≡ v.journal → list_all is_quiet (numbered k n (kept keeps n (outs_of n v e))) ≡ true
row-quiet k n v e true other is = quiet-numbered k n (outs_of n v e) (row-silent n v e other is)
row-quiet k n v e false other is =
    subst (λ os. list_all is_quiet (numbered k n os) ≡ true) (sym (silent-kept n v e other is))
    (quiet-numbered k n (outs_of n v e) (row-silent n v e other is))

-- ---- an event with one

-- no record has the head of a compaction
no-compact : (x : Record) → Some (head.Compact) ≡ Some (head_in x) → ⊥
no-compact (record'.Prepared t home parts sid p reads writes) is = cc
no-compact (record'.Ended t o) is = cc
no-compact (record'.Ceiling c) is = cc
no-compact (record'.Decided t f parts) is = cc
no-compact (record'.Closed t) is = cc

own-record : (d : DocumentData) (n : NodeId) (a : Act) (x : Record) → is_own d n a ≡ true →
    head_of a ≡ Some (head_in x) → is_record_at d a n ≡ true
own-record d n (act.Prepared m t p) x own is = own
own-record d n (act.Ended m t o) x own is = own
own-record d n (act.Ceiling m c) x own is = own
own-record d n (act.Decided t f) x own is = own
own-record d n (act.Closed t) x own is = own
own-record d n (act.Compacted m) x own is = absurd (no-compact x is)
own-record d n a x own is = cc

record-writes : (d : DocumentData) (e : Option Envelope) (a : Act) (n : NodeId) (x : Record) →
    is_record_at d a n ≡ true → doubt_of d e (head_of a) ≡ Some x → change d e a n ≡ Writes (Some x)
record-writes d e (act.Prepared m t p) n x at is = rw at (ap Writes is)
record-writes d e (act.Ended m t o) n x at is = rw at (ap Writes is)
record-writes d e (act.Ceiling m c) n x at is = rw at (ap Writes is)
record-writes d e (act.Decided t f) n x at is = rw at (ap Writes is)
record-writes d e (act.Closed t) n x at is = rw at (ap Writes is)
record-writes d e a n x at is = cc

pub row-turn : (d : DocumentData) (past : List Act) (n m k : ℕ) (e : Event) (x : Record) → Comes d past n m e →
    journal_behind n (view d past n) e ≡ x ∷ journal d past n →
    HasTurn d (brought m e past) n x (numbered k n (outs_of n (view d past n) e))
row-turn d past n m k e x comes is =
    let os : List Out = outs_of n (view d past n) e in
    let w : WritesFirst n (view d past n) e os x = writes-first n (view d past n) e x is in
    let mine = subst (λ q. list_all (is_own_out d n) q ≡ true) w.are (own-outs d past n m e comes) in
    let own : is_own d n w.first ≡ true = (and_parts (is_own d n w.first) (list_all (is_own_out d n) w.rest) mine).0 in
    let at : is_record_at d w.first n ≡ true = own-record d n w.first x own w.head in
    record {
      turn = w.first;
      behind = numbered k n w.rest;
      are = ap (numbered k n) w.are;
      head = w.head;
      at = at;
      writes =
          record-writes d (got (brought m e past)) w.first n x at (first-meant d past n m e os x comes w);
      quiet = quiet-numbered k n w.rest w.silent;
    }

-- ---- what is left

brought-leaves : (d : DocumentData) (past : List Act) (n m : ℕ) (e : Event) →
    LeavesDisks d past (brought m e past) n None
brought-leaves d past n m (event.Deliver x said) =
    leaves-acts d past past (act.Got m ∷ []) n None refl (leaves-none d past n)
brought-leaves d past n m e = leaves-none d past n

pub row-leaves : (d : DocumentData) (past : List Act) (n m k : ℕ) (e : Event) (x : Option Record) →
    Comes d past n m e → (e ≡ event.Compact → ⊥) →
    journal_behind n (view d past n) e ≡ written x (journal d past n) →
    LeavesDisks d past (after (brought m e past) (numbered k n (outs_of n (view d past n) e))) n x
row-leaves d past n m k e None comes other is =
    leaves-acts d past (brought m e past) (numbered k n (outs_of n (view d past n) e)) n None
    (row-quiet k n (view d past n) e true other is) (brought-leaves d past n m e)
row-leaves d past n m k e (Some x) comes other is =
    let q : List Act = brought m e past in
    let t = row-turn d past n m k e x comes is in
    subst (λ acts. LeavesDisks d past (after q acts) n (Some x)) (sym t.are)
    (leaves-acts d past (t.turn ∷ q) t.behind n (Some x) t.quiet
    (leaves-turn d past q t.turn n x t.at t.writes (brought-leaves d past n m e)))
