-- A read request that is played on the parts of a node is its row.
use Rattle.std.proofs.Common.{◌≡◌, Bool, true, false, List, ◌∷◌, ◌++◌, Some, None, refl, sym, ap, subst, ◌∙◌, IsTrue, max, nat_lt}
use Rattle.std.specs.Prelude.{if◌then◌else◌}
use Rattle.std.proofs.lemmas.Bool.{and_from}
use Rattle.score_base.specs.declared.ids.NodeId.{NodeId}
use Rattle.score_base.specs.declared.records.Record.{Record}
use Rattle.score_disk.specs.declared.disk.Disk.{Ghosts}
use Rattle.journal_words.specs.Journals.{floor}
use Rattle.journal_words.specs.Participants.{written}
use Rattle.node_journal.specs.declared.pair.Pair.{Pair}
use Rattle.grid_model.specs.declared.events.Event.{Event}
use Rattle.grid_model.specs.declared.events.Event.TheVariants as event
use Rattle.grid_model.specs.declared.events.Out.{Out}
use Rattle.grid_model.specs.declared.messages.Message.TheVariants as message
use Rattle.grid_model.specs.declared.messages.ReadReq.{ReadReq}
use Rattle.grid_model.specs.declared.stories.HeldRead.{HeldRead}
use Rattle.grid_model.specs.Fitness.{is_fit_at, is_fit_request}
use Rattle.grid_model.specs.Stories.{is_small_node}
use Rattle.grid_model.specs.NextViews.{next_view, envelope_of, view_heard}
use Rattle.grid_model.specs.Rows.{outs_of, read_outs}
use Rattle.grid_model.specs.Views.{View, Stage}
use Rattle.grid_store.specs.Given.{Given, IsSame, participant_in}
use Rattle.snapshot_read.specs.declared.answers.Arrived.TheVariants as arrived
use Rattle.snapshot_read.specs.declared.answers.Promised.{Promised}
use Rattle.snapshot_read.specs.declared.answers.Promised.TheVariants as promised
use Rattle.snapshot_read.specs.declared.dues.CeilingDue.{CeilingDue}
use Rattle.snapshot_read.specs.Held.{HeldReads}
use Rattle.snapshot_read.specs.Calls.{held_with, IsAnswered}
use Rattle.snapshot_read.specs.Outs.{arrived_outs, promised_outs, ceiling_outs}
use Rattle.snapshot_read.specs.Reads.{read_at, arrival, served_or_held, at_once, ceiling_for}
use Rattle.snapshot_read.specs.Views.{view_with, due_for}
use Rattle.snapshot_read.proofs.ReadRows.{read-row, read-behind}
use Rattle.node_core.specs.Steps.{IsUnwritten, IsAppended}
use Rattle.node_core.specs.Plays.{IsViewOf, IsRowAt, IsRecordAt, HasPlayed}
use Rattle.node_core.proofs.Rows.{view-of, fit-row, row-at, record-at, cluster-behind}

-- the event of a read request
abbrev request_at : NodeId → ReadReq → Event
request_at x q = event.Deliver x (message.ReadReq q)

-- ---- what arrives

no-ceiling : (p : Promised) (due : CeilingDue) (x : Record) → at_once p ≡ arrived.NeedCeiling due x → ⊥
no-ceiling (promised.Hold w) due x e = cc
no-ceiling (promised.Serve a) due x e = cc

pub due-arrival : (s : Given) (h : HeldRead) (due : CeilingDue) (x : Record)
    → arrived.NeedCeiling due x ≡ arrival s h → due_for s h ≡ Some x
due-arrival s h due x e = go (nat_lt (floor s.journal) h.sid) e
  where
    go : (b : Bool)
        → arrived.NeedCeiling due x
        ≡ (if b then arrived.NeedCeiling (record { read = h }) (ceiling_for h) else at_once (served_or_held s h))
        → (if b then Some (ceiling_for h) else None) ≡ Some x
    go true e = (let same : x ≡ ceiling_for h = cc in ap (λ y. Some y) (sym same))
    go false e = absurd (no-ceiling (served_or_held s h) due x (sym e))

-- a read is answered at once
pub record IsOnce (s : Given) (h : HeldRead) (p : Promised) : Type 0 where
  pub none : due_for s h ≡ None
  pub is : served_or_held s h ≡ p

at-once-same : (p r : Promised) → at_once p ≡ at_once r → r ≡ p
at-once-same (promised.Hold w) (promised.Hold y) e = (let same : w ≡ y = cc in ap (λ z. promised.Hold z) (sym same))
at-once-same (promised.Hold w) (promised.Serve b) e = absurd (cc)
at-once-same (promised.Serve a) (promised.Hold y) e = absurd (cc)
at-once-same (promised.Serve a) (promised.Serve b) e = (let same : a ≡ b = cc in ap (λ z. promised.Serve z) (sym same))

pub once-arrival : (s : Given) (h : HeldRead) (p : Promised) → at_once p ≡ arrival s h → IsOnce s h p
once-arrival s h p e = go (nat_lt (floor s.journal) h.sid) refl e
  where
    go : (b : Bool) → nat_lt (floor s.journal) h.sid ≡ b
        → at_once p ≡ (if b then arrived.NeedCeiling (record { read = h }) (ceiling_for h) else at_once (served_or_held s h))
        → IsOnce s h p
    go true at e = absurd (no-ceiling p (record { read = h }) (ceiling_for h) e)
    go false at e =
        let P : Bool → Type 0 = λ c. (if c then Some (ceiling_for h) else None) ≡ None in
        record { none = subst P (sym at) refl; is = at-once-same p (served_or_held s h) e }

-- the answer is the same where all of the store but its room is
pub same-promised : (s s' : Given) (h : HeldRead) → IsSame s s' → served_or_held s' h ≡ served_or_held s h
same-promised s s' h same =
    λ i. served_or_held (record {
      node = s'.node;
      cluster = same.cluster i;
      journal = same.journal i;
      next = same.next i;
      room = s'.room;
    }) h

-- ---- the row

request-fits : (s : Given) (x : NodeId) (q : ReadReq) → IsTrue (is_small_node s.journal s.next)
    → IsTrue (is_fit_request s.cluster s.node q) → (stand : Stage)
    → is_fit_at s.node (participant_in s) stand x (message.ReadReq q) ≡ true
request-fits s x q small fit stand =
    and_from (is_small_node s.journal s.next) (is_fit_request s.cluster s.node q) small fit

pub request-row : (s : Given) (hs : List HeldRead) (x : NodeId) (q : ReadReq) → IsTrue (is_small_node s.journal s.next)
    → IsTrue (is_fit_request s.cluster s.node q) → (v : View) → IsViewOf s hs v
    → read_outs s.node (participant_in s) x q (read_at s x q).sid ≡ outs_of s.node v (request_at x q)
request-row s hs x q small fit v is =
    sym (fit-row s hs x (message.ReadReq q) v is (request-fits s x q small fit))

pub request-at : (s : Given) (hs : List HeldRead) (x : NodeId) (q : ReadReq) (outs : List Out) (s' : Given)
    (hs' : List HeldRead) → IsTrue (is_small_node s.journal s.next) → IsTrue (is_fit_request s.cluster s.node q)
    → outs ≡ arrived_outs s.node q.t q.op (arrival s (read_at s x q)) (served_or_held s (read_at s x q))
    → s'.node ≡ s.node → s'.cluster ≡ s.cluster
    → s'.journal ≡ written (due_for s (read_at s x q)) s.journal → s'.next ≡ max s.next (read_at s x q).sid
    → hs' ≡ held_with (served_or_held s (read_at s x q)) (read_at s x q) hs
    → IsRowAt s hs (request_at x q) outs s' hs'
request-at s hs x q outs s' hs' small fit is node cluster journal next held =
    let row : outs ≡ read_outs s.node (participant_in s) x q (read_at s x q).sid = is ∙ read-row s x q in
    row-at s hs (request_at x q) outs s' hs' node cluster
    (λ v at. row ∙ request-row s hs x q small fit v at)
    (λ desk acks.
    let behind = read-behind s x q hs desk acks in
    let view : IsViewOf s' hs' (next_view s.node (view_with s hs desk acks) (request_at x q)
    (read_outs s.node (participant_in s) x q (read_at s x q).sid)) =
    view-of s' hs' _
    (cluster-behind (envelope_of s.node (request_at x q)) None (view_heard (view_with s hs desk acks) (request_at x q))
    (read_outs s.node (participant_in s) x q (read_at s x q).sid) ∙ sym cluster)
    (behind.journal ∙ sym journal) (behind.next ∙ sym next) (behind.held ∙ sym held) in
    subst (λ os. IsViewOf s' hs' (next_view s.node (view_with s hs desk acks) (request_at x q) os)) (sym row) view)

pub request-record : (s : Given) (hs : List HeldRead) (x : NodeId) (q : ReadReq) (y : Record)
    → IsTrue (is_small_node s.journal s.next) → IsTrue (is_fit_request s.cluster s.node q)
    → due_for s (read_at s x q) ≡ Some y → IsRecordAt s hs (request_at x q) y
request-record s hs x q y small fit due =
    record-at s hs (request_at x q) y (read_outs s.node (participant_in s) x q (read_at s x q).sid)
    (request-row s hs x q small fit)
    (λ desk acks. (read-behind s x q hs desk acks).journal ∙ ap (λ o. written o s.journal) due)

module _ {D : Type 0} {g : Ghosts D} where
  -- an answer at once
  pub once-played : (s : Given) (w : HeldReads) (p m : Pair D g) (x : NodeId) (q : ReadReq) (s' : Given) (w' : HeldReads)
      (outs : List Out) (a : Promised)
      → IsTrue (is_small_node s.journal s.next) → IsTrue (is_fit_request s.cluster s.node q)
      → at_once a ≡ arrival s (read_at s x q) → IsAnswered a (read_at s x q) s w s' w' → IsUnwritten p m
      → outs ≡ arrived_outs s.node q.t q.op (at_once a) a
      → HasPlayed s w.reads p (request_at x q) s' w'.reads m outs
  once-played s w p m x q s' w' outs a small fit arrives answered unwritten is =
      let once = once-arrival s (read_at s x q) a arrives in
      record {
        row = request-at s w.reads x q outs s' w'.reads small fit
            (is ∙ ap (λ z. arrived_outs s.node q.t q.op z a) arrives
            ∙ ap (λ z. arrived_outs s.node q.t q.op (arrival s (read_at s x q)) z) (sym once.is))
            (ap (λ (z : Given). z.node) answered.store) (ap (λ (z : Given). z.cluster) answered.store)
            (ap (λ (z : Given). z.journal) answered.store ∙ sym (ap (λ o. written o s.journal) once.none))
            (ap (λ (z : Given). z.next) answered.store)
            (answered.held ∙ ap (λ z. held_with z (read_at s x q) w.reads) (sym once.is));
        rec = None;
        journal = ap (λ (z : Given). z.journal) answered.store;
        disks = unwritten;
      }

  -- an answer whose ceiling is kept
  pub kept-played : (s : Given) (w : HeldReads) (p m : Pair D g) (x : NodeId) (q : ReadReq) (s' : Given) (w' : HeldReads)
      (outs : List Out) (due : CeilingDue) (y : Record) (a : Promised)
      → IsTrue (is_small_node s.journal s.next) → IsTrue (is_fit_request s.cluster s.node q)
      → arrived.NeedCeiling due y ≡ arrival s (read_at s x q) → a ≡ served_or_held s (read_at s x q)
      → s'.node ≡ s.node → s'.cluster ≡ s.cluster → s'.journal ≡ y ∷ s.journal
      → s'.next ≡ max s.next (read_at s x q).sid → w'.reads ≡ held_with a (read_at s x q) w.reads
      → IsAppended y p m
      → outs ≡ ceiling_outs s.node y ++ promised_outs s.node q.t q.op a
      → HasPlayed s w.reads p (request_at x q) s' w'.reads m outs
  kept-played s w p m x q s' w' outs due y a small fit arrives promises node cluster journal next held written' is =
      record {
        row = request-at s w.reads x q outs s' w'.reads small fit
            (is ∙ ap (λ z. arrived_outs s.node q.t q.op z a) arrives
            ∙ ap (λ z. arrived_outs s.node q.t q.op (arrival s (read_at s x q)) z) promises)
            node cluster
            (journal ∙ sym (ap (λ o. written o s.journal) (due-arrival s (read_at s x q) due y arrives)))
            next (held ∙ ap (λ z. held_with z (read_at s x q) w.reads) promises);
        rec = Some y;
        journal = journal;
        disks = written';
      }
