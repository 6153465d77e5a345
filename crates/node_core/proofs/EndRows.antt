-- An end that is told and played on the parts of a node is its row, with the held reads that it frees.
use Rattle.std.proofs.Common.{◌≡◌, Bool, true, false, List, [], ◌∷◌, ◌++◌, Option, Some, None, refl, sym, ap, subst, ◌∙◌}
use Rattle.std.specs.Prelude.{is_some, if◌then◌else◌}
use Rattle.std.specs.List.{flat_map}
use Rattle.std.proofs.lemmas.Bool.{and_from}
use Rattle.score_base.specs.declared.ids.TxId.{TxId}
use Rattle.score_base.specs.declared.ids.NodeId.{NodeId}
use Rattle.score_base.specs.declared.ids.Ident.{Ident}
use Rattle.score_base.specs.declared.causes.Outcome.{Outcome}
use Rattle.score_base.specs.declared.records.Record.{Record}
use Rattle.score_base.specs.declared.records.Record.TheVariants as record'
use Rattle.script_lang.specs.Scripts.{ScriptData}
use Rattle.placement.specs.Clusters.{ClusterData}
use Rattle.score_disk.specs.declared.disk.Disk.{Ghosts}
use Rattle.journal_words.specs.Journals.{learnt, pending, is_clear}
use Rattle.node_journal.specs.declared.pair.Pair.{Pair}
use Rattle.grid_model.specs.declared.events.Event.{Event}
use Rattle.grid_model.specs.declared.events.Event.TheVariants as event
use Rattle.grid_model.specs.declared.events.Out.{Out}
use Rattle.grid_model.specs.declared.messages.Envelope.{Envelope}
use Rattle.grid_model.specs.declared.messages.Message.TheVariants as message
use Rattle.grid_model.specs.declared.stories.HeldRead.{HeldRead}
use Rattle.grid_model.specs.Fitness.{is_fit_at, is_fit_outcome}
use Rattle.grid_model.specs.Stories.{is_small_node}
use Rattle.grid_model.specs.NextViews.{behind, behind_all, next_view, envelope_of, view_heard}
use Rattle.grid_model.specs.Rows.{outs_of, end_outs, if_pending, freed_by, tell_outs, release, served, version_for}
use Rattle.grid_model.specs.Views.{View, Open, Stage}
use Rattle.grid_store.specs.Given.{Given, IsSame, participant_in}
use Rattle.ordered_commit.specs.declared.learning.Learnt.{Learnt}
use Rattle.ordered_commit.specs.declared.learning.Learnt.TheVariants.{Due, Ack, Ignore}
use Rattle.ordered_commit.specs.Ends.{is_due, learn_outs, settle_outs}
use Rattle.snapshot_read.specs.Views.{view_with}
use Rattle.snapshot_read.specs.Outs.{serve_outs}
use Rattle.snapshot_read.proofs.ReleaseRows.{release-all, release-held}
use Rattle.node_core.specs.Steps.{IsUnwritten, IsAppended}
use Rattle.node_core.specs.Plays.{IsViewOf, IsRowAt, IsRecordAt, IsReleased, HasPlayed}
use Rattle.node_core.proofs.Rows.{view-of, fit-row, row-at, record-at, cluster-behind}

-- the event of an end
abbrev end_at : NodeId → TxId → Outcome → Event
end_at x t o = event.Deliver x (message.Tell t o)

tell-fits : (s : Given) (x : NodeId) (t : TxId) (o : Outcome) → is_small_node s.journal s.next ≡ true
    → is_fit_outcome (pending t s.journal) o ≡ true → (stand : Stage)
    → is_fit_at s.node (participant_in s) stand x (message.Tell t o) ≡ true
tell-fits s x t o small fit stand =
    and_from (is_small_node s.journal s.next) (is_fit_outcome (pending t s.journal) o) small fit

pub tell-row : (s : Given) (hs : List HeldRead) (x : NodeId) (t : TxId) (o : Outcome)
    → is_small_node s.journal s.next ≡ true → is_fit_outcome (pending t s.journal) o ≡ true → (v : View)
    → IsViewOf s hs v → tell_outs s.node (participant_in s) hs t o ≡ outs_of s.node v (end_at x t o)
tell-row s hs x t o small fit v is = sym (fit-row s hs x (message.Tell t o) v is (tell-fits s x t o small fit))

-- ---- what is released

behind-append : (e : Option Envelope) (o : Option ScriptData) (v : View) (os ps : List Out)
    → behind_all e o v (os ++ ps) ≡ behind_all e o (behind_all e o v os) ps
behind-append e o v [] ps = refl
behind-append e o v (x ∷ os) ps = behind-append e o (behind e o v x) os ps

-- held reads that are served leave the records and the clock
record IsLeft (v w : View) : Type 0 where
  pub journal : w.journal ≡ v.journal
  pub next : w.next ≡ v.next

release-left : (e : Option Envelope) (o : Option ScriptData) (v : View) (c : ClusterData) (r : List Record) (n : NodeId)
    (hs : List HeldRead) → IsLeft v (behind_all e o v (release c r n hs))
release-left e o v c r n [] = record { journal = refl; next = refl }
release-left e o v c r n (h ∷ hs) = go (is_clear h.sid r) (λ w. release-left e o w c r n hs)
  where
    go : (b : Bool) → ((w : View) → IsLeft w (behind_all e o w (release c r n hs)))
        → IsLeft v (behind_all e o v ((if b then served n h.t h.op h.key h.sid h.from (version_for c r h.key h.sid) else [])
        ++ release c r n hs))
    go true more = (
        let w = behind_all e o v (served n h.t h.op h.key h.sid h.from (version_for c r h.key h.sid)) in
        let rest = more w in
        record { journal = rest.journal; next = rest.next })
    go false more = more v

-- ---- an end

-- where nothing is due
no-pending : (p : Option Ident) (outs : List Out) → is_some p ≡ false → if_pending p outs ≡ []
no-pending None outs is = refl
no-pending (Some p) outs is = absurd (cc)

some-pending : (p : Option Ident) (outs : List Out) → is_some p ≡ true → if_pending p outs ≡ outs
some-pending None outs is = absurd (cc)
some-pending (Some p) outs is = refl

append-none : (os : List Out) → os ++ [] ≡ os
append-none [] = refl
append-none (o ∷ os) = ap (λ z. o ∷ z) (append-none os)

-- an end that is not due leaves all
pub undue-at : (s : Given) (hs : List HeldRead) (x : NodeId) (t : TxId) (o : Outcome) (outs : List Out) (s' : Given)
    → is_small_node s.journal s.next ≡ true → is_fit_outcome (pending t s.journal) o ≡ true
    → outs ≡ end_outs s.node (participant_in s) t o → is_some (pending t s.journal) ≡ false
    → ((desk : TxId → Option Open) (acks : TxId → List NodeId) →
    IsViewOf s' hs (next_view s.node (view_with s hs desk acks) (end_at x t o) outs))
    → s'.node ≡ s.node → s'.cluster ≡ s.cluster → IsRowAt s hs (end_at x t o) outs s' hs
undue-at s hs x t o outs s' small fit is none view node cluster =
    row-at s hs (end_at x t o) outs s' hs node cluster
    (λ v at.
    is ∙ sym (append-none (end_outs s.node (participant_in s) t o))
    ∙ ap (λ z. end_outs s.node (participant_in s) t o ++ z)
    (sym (no-pending (pending t s.journal) (freed_by s.node (participant_in s) hs t o) none))
    ∙ tell-row s hs x t o small fit v at)
    view

-- what the next view has behind an end that is due, before held reads are served
record IsEnded (s : Given) (hs : List HeldRead) (t : TxId) (o : Outcome) (w : View) : Type 0 where
  pub journal : w.journal ≡ record'.Ended t o ∷ s.journal
  pub next : w.next ≡ learnt (Some (record'.Ended t o)) s.next
  pub held : w.held ≡ hs

settle-view : (s : Given) (hs : List HeldRead) (x : NodeId) (t : TxId) (o : Outcome) (home : Option NodeId)
    (desk : TxId → Option Open) (acks : TxId → List NodeId)
    → IsEnded s hs t o (next_view s.node (view_with s hs desk acks) (end_at x t o) (settle_outs s.node t o home))
settle-view s hs x t o None desk acks = record { journal = refl; next = refl; held = refl }
settle-view s hs x t o (Some m) desk acks = record { journal = refl; next = refl; held = refl }

-- an end that is due, and the held reads that it frees
pub due-at : (s : Given) (hs : List HeldRead) (x : NodeId) (t : TxId) (o : Outcome) (home : Option NodeId)
    (outs : List Out) (s' : Given) (hs' : List HeldRead)
    → is_small_node s.journal s.next ≡ true → is_fit_outcome (pending t s.journal) o ≡ true
    → settle_outs s.node t o home ≡ end_outs s.node (participant_in s) t o → is_some (pending t s.journal) ≡ true
    → s'.node ≡ s.node → s'.cluster ≡ s.cluster → s'.journal ≡ record'.Ended t o ∷ s.journal
    → s'.next ≡ learnt (Some (record'.Ended t o)) s.next
    → IsReleased s' s.node hs (settle_outs s.node t o home) hs' outs
    → IsRowAt s hs (end_at x t o) outs s' hs'
due-at s hs x t o home outs s' hs' small fit row due node cluster journal next rel =
    row-at s hs (end_at x t o) outs s' hs' node cluster
    (λ v at.
    is ∙ ap (λ z. z ++ freed_by s.node (participant_in s) hs t o) row
    ∙ ap (λ z. end_outs s.node (participant_in s) t o ++ z)
    (sym (some-pending (pending t s.journal) (freed_by s.node (participant_in s) hs t o) due))
    ∙ tell-row s hs x t o small fit v at)
    (λ desk acks.
    let e = envelope_of s.node (end_at x t o) in
    let v = view_with s hs desk acks in
    let w = next_view s.node v (end_at x t o) (settle_outs s.node t o home) in
    let ended = settle-view s hs x t o home desk acks in
    let left = release-left e None w s.cluster (record'.Ended t o ∷ s.journal) s.node hs in
    let held = release-held s' s.node e None w hs hs' rel.answers refl rel.released ended.held in
    let both : next_view s.node v (end_at x t o) outs ≡ behind_all e None w (freed_by s.node (participant_in s) hs t o) =
    ap (λ os. next_view s.node v (end_at x t o) os) is
    ∙ behind-append e None (view_heard v (end_at x t o)) (settle_outs s.node t o home) (freed_by s.node (participant_in s) hs t o) in
    subst (IsViewOf s' hs') (sym both)
    (view-of s' hs' _
    (cluster-behind e None w (freed_by s.node (participant_in s) hs t o)
    ∙ cluster-behind e None (view_heard v (end_at x t o)) (settle_outs s.node t o home) ∙ sym cluster)
    (left.journal ∙ ended.journal ∙ sym journal)
    (left.next ∙ ended.next ∙ sym next)
    (subst (λ os. (behind_all e None w os).held ≡ hs') freed held)))
  where
    freed : flat_map (serve_outs s.node) rel.answers ≡ freed_by s.node (participant_in s) hs t o
    freed =
        release-all s' s.node hs hs' rel.answers rel.released
        ∙ ap (λ c. release c s'.journal s.node hs) cluster ∙ ap (λ r. release s.cluster r s.node hs) journal

    is : outs ≡ settle_outs s.node t o home ++ freed_by s.node (participant_in s) hs t o
    is = rel.outs ∙ ap (λ z. settle_outs s.node t o home ++ z) freed

-- the record of an end that is due
pub due-record : (s : Given) (hs : List HeldRead) (x : NodeId) (t : TxId) (o : Outcome) (home : Option NodeId)
    → is_small_node s.journal s.next ≡ true → is_fit_outcome (pending t s.journal) o ≡ true
    → settle_outs s.node t o home ≡ end_outs s.node (participant_in s) t o → is_some (pending t s.journal) ≡ true
    → IsRecordAt s hs (end_at x t o) (record'.Ended t o)
due-record s hs x t o home small fit row due =
    record-at s hs (end_at x t o) (record'.Ended t o)
    (settle_outs s.node t o home ++ freed_by s.node (participant_in s) hs t o)
    (λ v at.
    ap (λ z. z ++ freed_by s.node (participant_in s) hs t o) row
    ∙ ap (λ z. end_outs s.node (participant_in s) t o ++ z)
    (sym (some-pending (pending t s.journal) (freed_by s.node (participant_in s) hs t o) due))
    ∙ tell-row s hs x t o small fit v at)
    (λ desk acks.
    let e = envelope_of s.node (end_at x t o) in
    let v = view_with s hs desk acks in
    let w = next_view s.node v (end_at x t o) (settle_outs s.node t o home) in
    let left = release-left e None w s.cluster (record'.Ended t o ∷ s.journal) s.node hs in
    ap (λ (z : View). z.journal)
    (behind-append e None (view_heard v (end_at x t o)) (settle_outs s.node t o home) (freed_by s.node (participant_in s) hs t o))
    ∙ left.journal ∙ (settle-view s hs x t o home desk acks).journal)

-- an end that is not due leaves what is before it
undue-view : (s s' : Given) (hs : List HeldRead) (x : NodeId) (t : TxId) (o : Outcome) (l : Learnt)
    (desk : TxId → Option Open) (acks : TxId → List NodeId) → is_due l ≡ false → IsSame s s'
    → IsViewOf s' hs (next_view s.node (view_with s hs desk acks) (end_at x t o) (learn_outs s.node t o l))
undue-view s s' hs x t o Ignore desk acks due same =
    view-of s' hs _ (sym same.cluster) (sym same.journal) (sym same.next) refl
undue-view s s' hs x t o (Ack home) desk acks due same =
    view-of s' hs _ (sym same.cluster) (sym same.journal) (sym same.next) refl
undue-view s s' hs x t o (Due due y) desk acks is same = absurd (cc)

module _ {D : Type 0} {g : Ghosts D} where
  pub undue-played : (s : Given) (hs : List HeldRead) (p m : Pair D g) (x : NodeId) (t : TxId) (o : Outcome) (s' : Given)
      (outs : List Out) (l : Learnt)
      → is_small_node s.journal s.next ≡ true → is_fit_outcome (pending t s.journal) o ≡ true
      → learn_outs s.node t o l ≡ end_outs s.node (participant_in s) t o → is_due l ≡ is_some (pending t s.journal)
      → is_due l ≡ false → outs ≡ learn_outs s.node t o l → IsSame s s' → IsUnwritten p m
      → HasPlayed s hs p (end_at x t o) s' hs m outs
  undue-played s hs p m x t o s' outs l small fit row due none is same disks =
      record {
        row = undue-at s hs x t o outs s' small fit (is ∙ row) (sym due ∙ none)
            (λ desk acks.
            subst (λ os. IsViewOf s' hs (next_view s.node (view_with s hs desk acks) (end_at x t o) os)) (sym is)
            (undue-view s s' hs x t o l desk acks none same))
            same.node same.cluster;
        rec = None;
        journal = same.journal;
        disks = disks;
      }

  pub due-played : (s : Given) (hs : List HeldRead) (p m : Pair D g) (x : NodeId) (t : TxId) (o : Outcome)
      (home : Option NodeId) (outs : List Out) (s' : Given) (hs' : List HeldRead)
      → is_small_node s.journal s.next ≡ true → is_fit_outcome (pending t s.journal) o ≡ true
      → settle_outs s.node t o home ≡ end_outs s.node (participant_in s) t o → is_some (pending t s.journal) ≡ true
      → s'.node ≡ s.node → s'.cluster ≡ s.cluster → s'.journal ≡ record'.Ended t o ∷ s.journal
      → s'.next ≡ learnt (Some (record'.Ended t o)) s.next
      → IsReleased s' s.node hs (settle_outs s.node t o home) hs' outs → IsAppended (record'.Ended t o) p m
      → HasPlayed s hs p (end_at x t o) s' hs' m outs
  due-played s hs p m x t o home outs s' hs' small fit row due node cluster journal next rel disks =
      record {
        row = due-at s hs x t o home outs s' hs' small fit row due node cluster journal next rel;
        rec = Some (record'.Ended t o);
        journal = journal;
        disks = disks;
      }
