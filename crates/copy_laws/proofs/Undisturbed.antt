-- No decided transaction wrote a key that another one read between its snapshot and its decision.
use Rattle.std.proofs.Common.{false, ◌≡◌, ◌≢◌, ◌≤◌, ◌<◌, ◌⊎◌, inl, inr, true, List, [], Some, refl, sym, ap, ◌∙◌, arith}
use Rattle.std.specs.Prelude.{map, filter}
use Rattle.score_base.specs.declared.ids.TxId.{TxId}
use Rattle.score_base.specs.declared.ids.NodeId.{NodeId}
use Rattle.score_base.specs.declared.ids.Ident.{Ident}
use Rattle.score_base.specs.declared.ids.Value.{Value}
use Rattle.score_base.specs.declared.keys.Key.{Key}
use Rattle.script_lang.specs.Scripts.{ScriptData}
use Rattle.script_lang.specs.Reads.{is_key_among, keys_named, remote_keys, written_keys}
use Rattle.placement.specs.Places.{is_among, holds}
use Rattle.grid_model.specs.declared.acts.Act.{Act}
use Rattle.grid_model.specs.Documents.{DocumentData}
use Rattle.journal_words.specs.Journals.{Prepared, prepared_of, keys_of_writes, conflict, ended}
use Rattle.grid_model.specs.Nodes.{journal, script_of}
use Rattle.script_runs.specs.Walks.{own_map}
use Rattle.grid_model.specs.Copies.{snapshot}
use Rattle.grid_model.specs.Facts.{IsDecided, RestsOnParts, parts_at}
use Rattle.journal_words.proofs.KeyLists.{conflict-read}
use Rattle.journal_words.proofs.Conflicts.{IsBefore, aborted, committed, conflicts-ordered}
use Rattle.journal_words.proofs.Stands.{has_prepared-says}
use Rattle.grid_model.proofs.Written.{with_values-keys, among-filter}
use Rattle.grid_laws.proofs.MessagesBacked.{commit-decided}
use Rattle.grid_laws.proofs.NodesFitActs.{nodes-fit}
use Rattle.grid_laws.proofs.DecisionsRest.{decisions-rest}
use Rattle.grid_laws.proofs.DecidedNotGivenUp.{decided-commits}
use Rattle.grid_laws.proofs.DecisionsOnce.{decided-same}
use Rattle.copy_laws.proofs.Footing.{Rests, values_in}
use Rattle.grid_laws.proofs.PartsOfKeys.{named-part-at, remote-named, some-holder, written-named}
use Rattle.copy_laws.proofs.PreparedFields.{PreparedOf, prepared-fields}

-- the Prepared of a decided transaction at a holder of one of its keys
record DecidedAt (d : DocumentData) (past : List Act) (n : NodeId) (t : TxId) (f : Ident) (s : ScriptData) : Type 0
  where
    pub prepared : Prepared
    pub stands : prepared_of t (journal d past n) ≡ Some prepared
    pub least : prepared.proposal ≤ f
    pub sid : prepared.sid ≡ snapshot d past t
    pub reads : prepared.reads ≡ filter (holds d.cluster.places n) (remote_keys [] s.ops)
    pub writes : prepared.writes ≡ map (λ k. (k, own_map s.ops (values_in d past t) k))
        (filter (holds d.cluster.places n) (written_keys [] s.ops))

decided-at : (d : DocumentData) (past : List Act) (n : NodeId) (t : TxId) (f : Ident) (s : ScriptData) (k : Key)
    → Rests d past → IsDecided d past t f → script_of t d.scripts ≡ Some s → holds d.cluster.places n k ≡ true
    → is_key_among k (keys_named s.ops) ≡ true → DecidedAt d past n t f s
decided-at d past n t f s k r dec is held named =
    let rests : RestsOnParts d past t f = (decisions-rest d past r.due false dec.0 t f dec.2).1 in
    let part : is_among n (parts_at d t) ≡ true = named-part-at d t s n k r.one is held named in
    let w = rests.each n part in
    let x = has_prepared-says d.cluster n t w.0 (journal d past n) (nodes-fit d past r.due n).fits w.1 in
    let y : PreparedOf d past n t x.0 = prepared-fields d past n t x.0 r.due x.1 in
    let proposal : x.0.proposal ≡ w.0 = x.2 in
    let most : w.0 ≤ f = w.2 in
    let same : y.script ≡ s = one-script y.script (sym y.named ∙ is) in
    record {
      prepared = x.0;
      stands = x.1;
      least = omega arith;
      sid = y.sid;
      reads = y.reads ∙ ap (λ (z : ScriptData). filter (holds d.cluster.places n) (remote_keys [] z.ops)) same;
      writes = y.writes ∙ ap (λ (z : ScriptData). map (λ k. (k, own_map z.ops (values_in d past t) k)) (filter (holds d.cluster.places n) (written_keys [] z.ops))) same;
    }
  where
    one-script : (z : ScriptData) → Some z ≡ Some s → z ≡ s
    one-script z e = cc

-- t read a key remotely that u wrote: u is in the snapshot of t, or comes behind t
pub undisturbed : (d : DocumentData) (past : List Act) (t u : TxId) (f g : Ident) (s v : ScriptData) (k : Key)
    → Rests d past → t ≢ u → IsDecided d past t f → IsDecided d past u g → script_of t d.scripts ≡ Some s
    → script_of u d.scripts ≡ Some v → is_key_among k (remote_keys [] s.ops) ≡ true
    → is_key_among k (written_keys [] v.ops) ≡ true → (g ≤ snapshot d past t) ⊎ (f < g)
undisturbed d past t u f g s v k r ne dt du is iv read wrote =
    let n = some-holder d k r.one in
    let a : DecidedAt d past n.0 t f s = decided-at d past n.0 t f s k r dt is n.1 (remote-named k [] s.ops read) in
    let b : DecidedAt d past n.0 u g v = decided-at d past n.0 u g v k r du iv n.1 (written-named k [] v.ops wrote) in
    let reads : is_key_among k a.prepared.reads ≡ true = ap (is_key_among k) a.reads ∙ among-filter (holds d.cluster.places n.0) k (remote_keys [] s.ops) ∙ rw (read, n.1) refl in
    let m : Key → Value = own_map v.ops (values_in d past u) in
    let writes : is_key_among k (keys_of_writes b.prepared.writes) ≡ true = ap (λ ws. is_key_among k (keys_of_writes ws)) b.writes ∙ ap (is_key_among k) (with_values-keys m (filter (holds d.cluster.places n.0) (written_keys [] v.ops))) ∙ among-filter (holds d.cluster.places n.0) k (written_keys [] v.ops) ∙ rw (wrote, n.1) refl in
    let both : conflict b.prepared.reads b.prepared.writes a.prepared.reads a.prepared.writes ≡ true = conflict-read k b.prepared.reads a.prepared.reads b.prepared.writes a.prepared.writes writes reads in
    elim (conflicts-ordered d.cluster n.0 u t b.prepared a.prepared (journal d past n.0) (nodes-fit d past r.due n.0).fits (λ e. ne (sym e)) b.stands a.stands both) [
      | inl before ↦ inl (seen n.0 a b reads writes before)
      | inr before ↦ inr (behind n.0 a b before)
    ]
  where
    seen : (n : NodeId) (a : DecidedAt d past n t f s) (b : DecidedAt d past n u g v)
        → is_key_among k a.prepared.reads ≡ true → is_key_among k (keys_of_writes b.prepared.writes) ≡ true
        → IsBefore (ended u (journal d past n)) b.prepared a.prepared → g ≤ snapshot d past t
    seen n a b reads writes (aborted e) = absurd (decided-commits d past r.due n u g du e)
    seen n a b reads writes (committed g' e lt each) =
        let one : g' ≡ g = decided-same d past r.due u g' g (commit-decided d past r.due n u g' e) du in
        let low : g' ≤ a.prepared.sid = each k writes reads in
        let sid : a.prepared.sid ≡ snapshot d past t = a.sid in
        omega arith

    behind : (n : NodeId) (a : DecidedAt d past n t f s) (b : DecidedAt d past n u g v)
        → IsBefore (ended t (journal d past n)) a.prepared b.prepared → f < g
    behind n a b (aborted e) = absurd (decided-commits d past r.due n t f dt e)
    behind n a b (committed f' e lt each) =
        let one : f' ≡ f = decided-same d past r.due t f' f (commit-decided d past r.due n t f' e) dt in
        let most : b.prepared.proposal ≤ g = b.least in
        omega arith
