-- What transactions were shown is what their scripts read on the serial copy.
use Rattle.std.proofs.Common.{◌≡◌, ◌≤◌, ℕ, List, [], ◌∷◌, ◌++◌, Option, Some, None, sym, ap, subst, ◌∙◌}
use Rattle.std.specs.Prelude.{IsTrue}
use Rattle.score_base.specs.declared.ids.TxId.{TxId}
use Rattle.score_base.specs.declared.ids.NodeId.{NodeId}
use Rattle.score_base.specs.declared.ids.Ident.{Ident}
use Rattle.score_base.specs.declared.ids.Value.{Value}
use Rattle.score_base.specs.declared.keys.Key.{Key}
use Rattle.script_lang.specs.Scripts.{ScriptData}
use Rattle.placement.specs.Places.{holds}
use Rattle.placement.specs.Clusters.{init}
use Rattle.grid_model.specs.declared.acts.Act.{Act}
use Rattle.grid_model.specs.declared.acts.Act.TheVariants as act
use Rattle.grid_model.specs.declared.stories.Story.{Story}
use Rattle.grid_model.specs.Documents.{DocumentData}
use Rattle.grid_model.specs.Histories.{after}
use Rattle.journal_words.specs.Journals.{commit_id, version_at}
use Rattle.grid_model.specs.Nodes.{journal, script_of}
use Rattle.grid_model.specs.Stories.{story, first_sid}
use Rattle.script_runs.specs.Waits.{waiting}
use Rattle.grid_model.specs.Runs.{IsRun}
use Rattle.grid_model.specs.Acts.{EachAct}
use Rattle.grid_model.specs.Copies.{copy, copy_of, IsShown, key_at, order, ReadsCopy, script_reads, shown, snapshot, snapshot_in, TakesCopy}
use Rattle.journal_words.specs.Orders.{members_to}
use Rattle.script_runs.proofs.AllReads.{reads_by}
use Rattle.script_runs.proofs.SerialWalks.{AreOfKeys, keys-of}
use Rattle.grid_model.proofs.SerialCopies.{AllTake, copy-last, copy-reads, last_map, members-rest, take-rest}
use Rattle.grid_laws.proofs.EachActs.{each-act-more}
use Rattle.copy_laws.proofs.Footing.{IsServed, Rests, story_values, values_in}
use Rattle.copy_laws.proofs.OrderMembers.{order-falling}
use Rattle.copy_laws.proofs.ServedTaken.{taken-served, takens-served, TakesServed}
use Rattle.copy_laws.proofs.LastReads.{commit-last, served-last}
use Rattle.copy_laws.proofs.ShownSteps.{Says}
use Rattle.copy_laws.proofs.ShownRuns.{shown-reads}
use Rattle.copy_laws.proofs.FinishedShown.{finished-shown}
use Rattle.copy_laws.proofs.AllTaken.{all-taken, Decided, decided-member}

-- ---- the copy at an identifier

-- it is what the members up to it wrote last
copy-at : (d : DocumentData) (past : List Act) (s : Ident) (k : Key) → Rests d past
    → copy d past s k ≡ last_map d (values_in d past) (members_to s (order d past)) k
copy-at d past s k r =
    let w = members-rest s (order d past) (order-falling d past) in
    let all : AllTake d (values_in d past) (w.0 ++ members_to s (order d past)) = subst (AllTake d (values_in d past)) w.1 (all-taken d past r) in
    copy-last d (values_in d past) (members_to s (order d past)) (take-rest d (values_in d past) w.0 (members_to s (order d past)) all) k

-- ---- a value that was taken

-- it is that of its key in the copy at its identifier
served-copy : (d : DocumentData) (past : List Act) (t : TxId) (j : ℕ) (sid : Ident) (v : Value) → Rests d past
    → (w : IsServed d past t j sid v) → v ≡ copy d past sid w.key
served-copy d past t j sid v r w = served-last d past t j sid v r w ∙ sym (copy-at d past sid w.key r)

reply-copy : (d : DocumentData) (past : List Act) (t : TxId) (j : ℕ) (sid : Ident) (v : Value) → Rests d past
    → IsServed d past t j sid v → ReadsCopy d past sid v (key_at (script_of t d.scripts) j)
reply-copy d past t j sid v r w = let P : Option Key → Type 0 = λ o. ReadsCopy d past sid v o in subst P (sym w.named) (served-copy d past t j sid v r w)

-- ---- updates

-- each member of the order was shown what it reads on the copy of those before it
pub update-shown : (d : DocumentData) (h : List Act) → IsRun d d.items h → Rests d (after [] h)
    → (later before : List (Ident × TxId)) (x : Ident × TxId) → order d (after [] h) ≡ later ++ x ∷ before
    → IsShown d (after [] h) x.1 (copy_of d before)
update-shown d h run r later before x at =
    let past : List Act = after [] h in
    let w : Decided d past x.0 x.1 = decided-member d past x.0 x.1 later before r at in
    let all : AllTake d (values_in d past) (later ++ x ∷ before) = subst (AllTake d (values_in d past)) at (all-taken d past r) in
    let mine : AllTake d (values_in d past) (x ∷ before) = take-rest d (values_in d past) later (x ∷ before) all in
    let reads = copy-reads d (values_in d past) x before w.script mine w.is in
    let P : Option Story → Type 0 = λ o. Says w.script (shown past x.1) o in
    let by : shown past x.1 ≡ reads_by w.begun.progress.values w.script.ops = subst P w.told (shown-reads d h run x.1 w.script w.is) in
    let same : values_in d past x.1 ≡ w.begun.progress.values = ap story_values w.told in
    let R : Option ScriptData → Type 0 = λ o. shown past x.1 ≡ script_reads o (copy_of d before) in
    subst R (sym w.is) (by ∙ ap (λ vs. reads_by vs w.script.ops) (sym same) ∙ sym reads)

-- ---- read-only transactions

-- a transaction with all its values was shown what it reads on the copy at its snapshot
pub reader-shown : (d : DocumentData) (h : List Act) → IsRun d d.items h → Rests d (after [] h)
    → (s : ScriptData) (t : TxId) → script_of t d.scripts ≡ Some s → (x : Story) → story d (after [] h) t ≡ Some x
    → waiting s.ops x.progress.values ≡ None
    → IsShown d (after [] h) t (copy d (after [] h) (snapshot d (after [] h) t))
reader-shown d h run r s t is x told full = finished-shown d h run s t is x told full (copy d (after [] h) (snapshot d (after [] h) t)) (keys-of (copy d (after [] h) (snapshot d (after [] h) t)) x.progress.values s.ops each)
  where
    some-same : (a b : Key) → Some a ≡ Some b → a ≡ b
    some-same a b h = cc

    each : AreOfKeys (copy d (after [] h) (snapshot d (after [] h) t)) x.progress.values s.ops
    each j k v named e =
        let w = taken-served d (after [] h) t x j v r.due told e in
        let y : IsServed d (after [] h) t j w.0 v = w.2 in
        let snap : snapshot d (after [] h) t ≡ w.0 = ap snapshot_in told ∙ ap (λ o. first_sid o x.progress.sid0) w.1 in
        let same : y.key ≡ k = some-same y.key k (sym y.named ∙ ap (λ o. key_at o j) is ∙ named) in
        served-copy d (after [] h) t j w.0 v r y ∙ ap (copy d (after [] h) w.0) same ∙ ap (λ i. copy d (after [] h) i k) (sym snap)

-- ---- replies and versions

-- each reply that was taken has the copy's value
pub replies-copy : (d : DocumentData) (past : List Act) → Rests d past → EachAct (TakesCopy d past) past
replies-copy d past r = each-act-more (TakesServed d past) (TakesCopy d past) past go (takens-served d past r.due)
  where
    go : (a : Act) → TakesServed d past a → TakesCopy d past a
    go (act.Taken t j sid v) h = reply-copy d past t j sid v r h
    go a h = tt

-- up to its commit identifier a node has the copy's versions of the keys that it holds
pub versions-copy : (d : DocumentData) (past : List Act) (n : NodeId) (k : Key) (s : Ident) → Rests d past
    → IsTrue (holds d.cluster.places n k) → s ≤ commit_id (journal d past n)
    → (version_at (journal d past n) k (init d.cluster k) s).value ≡ copy d past s k
versions-copy d past n k s r held le = commit-last d past n k s r held le ∙ sym (copy-at d past s k r)
