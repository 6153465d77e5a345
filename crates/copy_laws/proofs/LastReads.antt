-- What a node reads below every pending proposal is what the decided transactions wrote last.
use Rattle.std.proofs.Common.{◌≡◌, ℕ, ◌≤◌, Bool, true, false, List, [], Option, Some, None, refl, sym, ap, subst, ◌∙◌, arith}
use Rattle.std.proofs.lemmas.Bool.Decides.{nat_tests}
use Rattle.std.proofs.lemmas.Bool.{and_parts, and_from}
use Rattle.std.specs.Prelude.{IsTrue, nat_le, if◌then◌else◌}
use Rattle.score_base.specs.declared.ids.TxId.{TxId}
use Rattle.score_base.specs.declared.ids.NodeId.{NodeId}
use Rattle.score_base.specs.declared.ids.Ident.{Ident}
use Rattle.score_base.specs.declared.ids.Value.{Value}
use Rattle.score_base.specs.declared.keys.Key.{Key}
use Rattle.score_base.specs.declared.causes.Outcome.{Outcome}
use Rattle.score_base.specs.declared.causes.Outcome.TheVariants as outcome
use Rattle.script_lang.specs.Scripts.{ScriptData}
use Rattle.script_lang.specs.Reads.{is_key_among, keys_named, written_keys}
use Rattle.placement.specs.Places.{is_among, holds}
use Rattle.placement.specs.Clusters.{init}
use Rattle.grid_model.specs.declared.acts.Act.{Act}
use Rattle.grid_model.specs.Documents.{DocumentData}
use Rattle.journal_words.specs.Journals.{all_fit, commit_id, ended, is_clear, version_at}
use Rattle.grid_model.specs.Nodes.{journal, script_of}
use Rattle.script_runs.specs.Walks.{own_map}
use Rattle.journal_words.specs.Orders.{members_to}
use Rattle.grid_model.specs.Copies.{order}
use Rattle.grid_model.specs.Facts.{IsDecided, RestsOnParts, parts_at}
use Rattle.journal_words.proofs.Applied.{IsApplied, applied-says, clear-applied, commit_id-clear}
use Rattle.journal_words.proofs.LastWrites.{version-last}
use Rattle.journal_words.proofs.Once.{ended-prepared}
use Rattle.journal_words.proofs.Orders.{AreFalling, has_member, members_to-member}
use Rattle.journal_words.proofs.Pendings.{clear-below, clear-ended}
use Rattle.journal_words.proofs.Readable.{IsVersion}
use Rattle.grid_model.proofs.SerialCopies.{falling-rest, last_map, members-rest, script_write, write_by}
use Rattle.journal_words.proofs.Stands.{has_prepared-says}
use Rattle.grid_laws.proofs.MessagesBacked.{commit-decided}
use Rattle.grid_laws.proofs.DecisionsRest.{decisions-rest}
use Rattle.grid_laws.proofs.NodesFitActs.{nodes-fit}
use Rattle.grid_laws.proofs.Promises.{served-promised}
use Rattle.grid_laws.proofs.DecidedNotGivenUp.{decided-commits}
use Rattle.grid_laws.proofs.DecisionsOnce.{decided-same}
use Rattle.copy_laws.proofs.Footing.{IsServed, Rests, values_in}
use Rattle.copy_laws.proofs.OrderMembers.{decided-order, order-decided, order-falling}
use Rattle.grid_laws.proofs.PartsOfKeys.{named-part-at, written-named}
use Rattle.copy_laws.proofs.PreparedWrites.{prepared-write}
use Rattle.copy_laws.proofs.ServedStable.{IsStable, served-stable}

members-falling : (d : DocumentData) (past : List Act) (s : Ident) → AreFalling (members_to s (order d past))
members-falling d past s =
    let w = members-rest s (order d past) (order-falling d past) in
    let P : List (Ident × TxId) → Type 0 = λ xs. AreFalling xs in
    falling-rest w.0 (members_to s (order d past)) (subst P w.1 (order-falling d past))

-- ---- a version up to s is of a member that wrote it

version-member : (d : DocumentData) (past : List Act) (n : NodeId) (k : Key) (s : Ident) (t : TxId) (f : Ident)
    (v : Value) → Rests d past → IsTrue (holds d.cluster.places n k) → IsVersion (journal d past n) k t f v → f ≤ s
    → (has_member f t (members_to s (order d past)) ≡ true) × (write_by d (values_in d past) k t ≡ Some v)
version-member d past n k s t f v g holds' is le =
    let fit : all_fit d.cluster n (journal d past n) ≡ true = (nodes-fit d past g.due n).fits in
    let a : IsApplied t f (journal d past n) = applied-says d.cluster n t f (journal d past n) fit is.applied in
    let x = ended-prepared d.cluster n t (outcome.Commit f) (journal d past n) fit a.committed in
    let member : has_member f t (order d past) ≡ true = decided-order d past t f g.one (commit-decided d past g.due n t f a.committed) in
    let low : nat_le f s ≡ true = grind (arith, nat_tests, le) in
    (members_to-member s f t (order d past) ∙ and_from (has_member f t (order d past)) (nat_le f s) member low, sym (prepared-write d past n t x.0 k g.due x.1 holds') ∙ is.wrote)

-- ---- a member up to s that wrote the key is a version there

-- the script that wrote
record Writes (d : DocumentData) (t : TxId) (k : Key) : Type 0 where
  script : ScriptData
  is : script_of t d.scripts ≡ Some script
  named : is_key_among k (keys_named script.ops) ≡ true

writes-named : (d : DocumentData) (values : TxId → List (ℕ × Value)) (k : Key) (t : TxId) (v : Value)
    → write_by d values k t ≡ Some v → Writes d t k
writes-named d values k t v h = go (script_of t d.scripts) refl h
  where
    written : (s : ScriptData) (b : Bool) → is_key_among k (written_keys [] s.ops) ≡ b
        → (if b then Some (own_map s.ops (values t) k) else None) ≡ Some v → is_key_among k (keys_named s.ops) ≡ true
    written s true e i = written-named k [] s.ops e
    written s false e i = cc

    go : (o : Option ScriptData) → script_of t d.scripts ≡ o → script_write o (values t) k ≡ Some v → Writes d t k
    go None e i = cc
    go (Some s) e i = record { script = s; is = e; named = written s (is_key_among k (written_keys [] s.ops)) refl i }

-- a decision up to s that a part is past is its commit there
ended-commit : (d : DocumentData) (past : List Act) (n : NodeId) (t : TxId) (f : Ident) (o : Outcome) → Rests d past
    → IsDecided d past t f → ended t (journal d past n) ≡ Some o → ended t (journal d past n) ≡ Some (outcome.Commit f)
ended-commit d past n t f outcome.Abort g decided e = absurd (decided-commits d past g.due n t f decided e)
ended-commit d past n t f (outcome.Commit h) g decided e =
    let same : f ≡ h = decided-same d past g.due t f h decided (commit-decided d past g.due n t h e) in
    e ∙ ap (λ (i : Ident). Some (outcome.Commit i)) (sym same)

member-version : (d : DocumentData) (past : List Act) (n : NodeId) (k : Key) (s : Ident) (t : TxId) (f : Ident)
    (v : Value) → Rests d past → IsTrue (holds d.cluster.places n k) → is_clear s (journal d past n) ≡ true
    → has_member f t (members_to s (order d past)) ≡ true → write_by d (values_in d past) k t ≡ Some v
    → IsVersion (journal d past n) k t f v × (f ≤ s)
member-version d past n k s t f v g holds' clear member wrote =
    let fit : all_fit d.cluster n (journal d past n) ≡ true = (nodes-fit d past g.due n).fits in
    let m = and_parts (has_member f t (order d past)) (nat_le f s) (sym (members_to-member s f t (order d past)) ∙ member) in
    let low = m.1 in
    let le : f ≤ s = grind (arith, nat_tests, low) in
    let decided : IsDecided d past t f = order-decided d past t f (decisions-rest d past g.due) m.0 in
    let w : Writes d t k = writes-named d (values_in d past) k t v wrote in
    let part : is_among n (parts_at d t) ≡ true = named-part-at d t w.script n k g.one w.is holds' w.named in
    let rests : RestsOnParts d past t f = (decisions-rest d past g.due false decided.0 t f decided.2).1 in
    let p = rests.each n part in
    let x = has_prepared-says d.cluster n t p.0 (journal d past n) fit p.1 in
    let least : p.0 ≤ f = p.2 in
    let is : x.0.proposal ≡ p.0 = x.2 in
    let e = clear-ended d.cluster n s t x.0 (journal d past n) fit clear x.1 (omega arith) in
    let commit : ended t (journal d past n) ≡ Some (outcome.Commit f) = ended-commit d past n t f e.0 g decided e.1 in
    (record { applied = clear-applied s t f (journal d past n) commit clear le; wrote = prepared-write d past n t x.0 k g.due x.1 holds' ∙ wrote }, le)

-- ---- what a node reads

-- below every pending proposal a holder of the key reads what was written last
node-last : (d : DocumentData) (past : List Act) (n : NodeId) (k : Key) (s : Ident) → Rests d past
    → IsTrue (holds d.cluster.places n k) → is_clear s (journal d past n) ≡ true
    → (version_at (journal d past n) k (init d.cluster k) s).value
    ≡ last_map d (values_in d past) (members_to s (order d past)) k
node-last d past n k s g holds' clear =
    version-last d.cluster n (journal d past n) k (init d.cluster k) s (write_by d (values_in d past) k) (members_to s (order d past)) (nodes-fit d past g.due n).fits (members-falling d past s)
    (λ t f v is le. version-member d past n k s t f v g holds' is le)
    (λ t f v member wrote. member-version d past n k s t f v g holds' clear member wrote)

-- so it does up to its commit identifier
pub commit-last : (d : DocumentData) (past : List Act) (n : NodeId) (k : Key) (s : Ident) → Rests d past
    → IsTrue (holds d.cluster.places n k) → s ≤ commit_id (journal d past n)
    → (version_at (journal d past n) k (init d.cluster k) s).value
    ≡ last_map d (values_in d past) (members_to s (order d past)) k
commit-last d past n k s g holds' le = node-last d past n k s g holds' (clear-below (commit_id (journal d past n)) s (journal d past n) le (commit_id-clear d.cluster n (journal d past n) (nodes-fit d past g.due n).fits))

-- and what it served is what was written last
pub served-last : (d : DocumentData) (past : List Act) (t : TxId) (j : ℕ) (sid : Ident) (v : Value) → Rests d past
    → (s : IsServed d past t j sid v) → v ≡ last_map d (values_in d past) (members_to sid (order d past)) s.key
served-last d past t j sid v g s =
    let stable : IsStable d past s.n s.key sid s.vn v = served-stable d past s.n t j s.key sid s.vn v s.later s.before g.due s.there in
    sym stable.value ∙ node-last d past s.n s.key sid g s.holds ((served-promised d past g.due s.n t j s.key sid s.vn v s.later s.before s.there).clear false)
