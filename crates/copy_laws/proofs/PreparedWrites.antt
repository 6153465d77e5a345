-- What the first Prepared of a transaction writes at a node: what its script wrote last, by what it took.
use Rattle.std.proofs.Common.{◌≡◌, inl, inr, Bool, true, List, [], ◌∷◌, Option, Some, None, sym, ap, subst, ◌∙◌, arith}
use Rattle.std.proofs.lemmas.Bool.Decides.{nat_tests}
use Rattle.std.proofs.lemmas.Bool.{cases_eq}
use Rattle.std.specs.Prelude.{IsTrue, ◌&&◌, if◌then◌else◌}
use Rattle.score_base.specs.declared.ids.TxId.{TxId}
use Rattle.score_base.specs.declared.ids.NodeId.{NodeId}
use Rattle.score_base.specs.declared.ids.Ident.{Ident}
use Rattle.score_base.specs.declared.ids.Value.{Value}
use Rattle.score_base.specs.declared.keys.Key.{Key}
use Rattle.score_base.specs.declared.records.Record.{Record}
use Rattle.score_base.specs.declared.records.Record.TheVariants as record'
use Rattle.script_lang.specs.Reads.{is_key_among, written_keys}
use Rattle.placement.specs.Places.{holds}
use Rattle.grid_model.specs.declared.acts.Act.{Act}
use Rattle.grid_model.specs.declared.messages.Prepare.{Prepare}
use Rattle.grid_model.specs.Documents.{DocumentData}
use Rattle.journal_words.specs.Journals.{Prepared, older, prepared_of, wrote_in, written_value}
use Rattle.grid_model.specs.Nodes.{journal}
use Rattle.script_runs.specs.Walks.{own_map}
use Rattle.grid_model.proofs.Written.{prepare-value}
use Rattle.grid_model.proofs.SerialCopies.{script_write, write_by}
use Rattle.grid_laws.proofs.Causes.{AllDue}
use Rattle.grid_laws.proofs.PreparesSay.{PrepareSays, PreparedSays, prepared-say, open_with}
use Rattle.copy_laws.proofs.Footing.{values_in, story_values}
use Rattle.grid_laws.proofs.NodesFit.{AllHold}

-- ---- the fields of the first Prepared

-- the first Prepared of t stands behind this Prepare of its home
pub record PreparedBy (d : DocumentData) (past : List Act) (n : NodeId) (t : TxId) (x : Prepared) : Type 0 where
  pub prepare : Prepare
  pub says : PrepareSays d past x.home n prepare
  pub of : t ≡ prepare.t
  pub sid : x.sid ≡ prepare.sid
  pub reads : x.reads ≡ prepare.reads
  pub writes : x.writes ≡ prepare.writes

prepared-by-this : (d : DocumentData) (past : List Act) (n : NodeId) (t u : TxId) (home : NodeId) (parts : List NodeId)
    (sid p : Ident) (reads : List Key) (writes : List (Key × Value)) (o : Option Prepared) (x : Prepared) → u ≡ t
    → PreparedSays d past n (record'.Prepared u home parts sid p reads writes)
    → older o (record { home = home; sid = sid; proposal = p; reads = reads; writes = writes }) ≡ Some x
    → (o ≡ Some x → PreparedBy d past n t x) → PreparedBy d past n t x
prepared-by-this d past n t u home parts sid p reads writes (Some y) x same s e go = go e
prepared-by-this d past n t u home parts sid p reads writes None x same s e go =
    let z : record { home = home; sid = sid; proposal = p; reads = reads; writes = writes } ≡ x = cc in
    let is : record'.Prepared u home parts sid p reads writes ≡ record'.Prepared s.prepare.t home s.prepare.parts s.prepare.sid p s.prepare.reads s.prepare.writes = s.is in
    let reads' : reads ≡ s.prepare.reads = cc in
    let writes' : writes ≡ s.prepare.writes = cc in
    let P : Prepared → Type 0 = λ w. PreparedBy d past n t w in
    subst P z (record { prepare = s.prepare; says = s.says; of = sym same ∙ s.t; sid = s.sid; reads = reads'; writes = writes' })

prepared-in : (d : DocumentData) (past : List Act) (n : NodeId) (t : TxId) (x : Prepared) (r : List Record)
    → AllHold (PreparedSays d past n) r → prepared_of t r ≡ Some x → PreparedBy d past n t x
prepared-in d past n t x [] all e = cc
prepared-in d past n t x (record'.Prepared u home parts sid p reads writes ∷ r) all e = elim (cases_eq u t) [
  | inl same ↦ prepared-by-this d past n t u home parts sid p reads writes (prepared_of t r) x same all.0 (grind (arith, nat_tests, e)) (λ f. prepared-in d past n t x r all.1 f)
  | inr other ↦ prepared-in d past n t x r all.1 (grind (arith, nat_tests, e))
]
prepared-in d past n t x (record'.Ended u o ∷ r) all e = prepared-in d past n t x r all.1 e
prepared-in d past n t x (record'.Ceiling c ∷ r) all e = prepared-in d past n t x r all.1 e
prepared-in d past n t x (record'.Decided u f parts ∷ r) all e = prepared-in d past n t x r all.1 e
prepared-in d past n t x (record'.Closed u ∷ r) all e = prepared-in d past n t x r all.1 e

-- a Prepared that stands was asked for so
pub prepared-by : (d : DocumentData) (past : List Act) (n : NodeId) (t : TxId) (x : Prepared) → AllDue d past
    → prepared_of t (journal d past n) ≡ Some x → PreparedBy d past n t x
prepared-by d past n t x due e = prepared-in d past n t x (journal d past n) (prepared-say d past due n).journal e

-- ---- what it writes

says-write : (d : DocumentData) (past : List Act) (home n : NodeId) (q : Prepare) (k : Key)
    → PrepareSays d past home n q → IsTrue (holds d.cluster.places n k)
    → written_value k q.writes ≡ write_by d (values_in d past) k q.t
says-write d past home n q k s holds' =
    let values : values_in d past q.t ≡ s.values = ap story_values s.full.at.story ∙ s.full.told in
    let mine : write_by d (values_in d past) k q.t ≡ script_write (Some s.script) s.values k = ap (λ o. script_write o (values_in d past q.t) k) s.full.at.script ∙ ap (λ w. script_write (Some s.script) w k) values in
    let and-true : (b : Bool) → (b && true) ≡ b = λ b. grind arith in
    ap (λ (p : Prepare). written_value k p.writes) s.is
    ∙ prepare-value d.cluster (open_with s.script q.sid s.values) n k
    ∙ ap (λ b. if is_key_among k (written_keys [] s.script.ops) && b then Some (own_map s.script.ops s.values k) else None) holds'
    ∙ ap (λ b. if b then Some (own_map s.script.ops s.values k) else None) (and-true (is_key_among k (written_keys [] s.script.ops)))
    ∙ sym mine

-- a node that holds the key has the script's last write of it
pub prepared-write : (d : DocumentData) (past : List Act) (n : NodeId) (t : TxId) (x : Prepared) (k : Key)
    → AllDue d past → prepared_of t (journal d past n) ≡ Some x → IsTrue (holds d.cluster.places n k)
    → wrote_in (prepared_of t (journal d past n)) k ≡ write_by d (values_in d past) k t
prepared-write d past n t x k due e holds' =
    let b : PreparedBy d past n t x = prepared-by d past n t x due e in
    ap (λ o. wrote_in o k) e
    ∙ ap (λ ws. written_value k ws) b.writes
    ∙ says-write d past x.home n b.prepare k b.says holds'
    ∙ ap (write_by d (values_in d past) k) (sym b.of)
