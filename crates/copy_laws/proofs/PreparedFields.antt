-- What the Prepared of a transaction says: its snapshot, the keys that it reads and the values that it writes.
use Rattle.std.proofs.Common.{◌≡◌, List, [], Some, None, sym, ap, ◌∙◌}
use Rattle.std.specs.Prelude.{map, filter}
use Rattle.score_base.specs.declared.ids.TxId.{TxId}
use Rattle.score_base.specs.declared.ids.NodeId.{NodeId}
use Rattle.script_lang.specs.Scripts.{ScriptData}
use Rattle.script_lang.specs.Reads.{remote_keys, written_keys}
use Rattle.placement.specs.Places.{holds}
use Rattle.grid_model.specs.declared.acts.Act.{Act}
use Rattle.grid_model.specs.declared.messages.Prepare.{Prepare}
use Rattle.grid_model.specs.Documents.{DocumentData}
use Rattle.journal_words.specs.Journals.{Prepared, prepared_of}
use Rattle.grid_model.specs.Nodes.{journal, script_of}
use Rattle.script_runs.specs.Waits.{waiting}
use Rattle.script_runs.specs.Walks.{own_map}
use Rattle.grid_model.specs.Copies.{snapshot}
use Rattle.grid_laws.proofs.Causes.{AllDue}
use Rattle.grid_laws.proofs.FullStories.{full-snapshot}
use Rattle.copy_laws.proofs.Footing.{story_values, values_in}
use Rattle.copy_laws.proofs.PreparedWrites.{PreparedBy, prepared-by}

-- a Prepared of t at n: of a transaction with all its values, at its snapshot, with the keys of n
pub record PreparedOf (d : DocumentData) (past : List Act) (n : NodeId) (t : TxId) (x : Prepared) : Type 0 where
  pub script : ScriptData
  pub named : script_of t d.scripts ≡ Some script
  pub full : waiting script.ops (values_in d past t) ≡ None
  pub sid : x.sid ≡ snapshot d past t
  pub reads : x.reads ≡ filter (holds d.cluster.places n) (remote_keys [] script.ops)
  pub writes : x.writes ≡ map (λ k. (k, own_map script.ops (values_in d past t) k))
      (filter (holds d.cluster.places n) (written_keys [] script.ops))

-- the Prepared of t that stands at n
pub prepared-fields : (d : DocumentData) (past : List Act) (n : NodeId) (t : TxId) (x : Prepared) → AllDue d past
    → prepared_of t (journal d past n) ≡ Some x → PreparedOf d past n t x
prepared-fields d past n t x due e =
    let b : PreparedBy d past n t x = prepared-by d past n t x due e in
    let q : Prepare = b.prepare in
    let y = b.says in
    let mine : values_in d past t ≡ y.values = ap (values_in d past) b.of ∙ ap story_values y.full.at.story ∙ y.full.told in
    let snap : snapshot d past q.t ≡ q.sid = full-snapshot d past x.home q.t y.script q.sid y.values y.full in
    record {
      script = y.script;
      named = ap (λ z. script_of z d.scripts) b.of ∙ y.full.at.script;
      full = ap (waiting y.script.ops) mine ∙ y.full.full;
      sid = b.sid ∙ sym snap ∙ ap (snapshot d past) (sym b.of);
      reads = b.reads ∙ ap (λ (z : Prepare). z.reads) y.is;
      writes = b.writes ∙ ap (λ (z : Prepare). z.writes) y.is ∙ ap (λ vs. map (λ k. (k, own_map y.script.ops vs k)) (filter (holds d.cluster.places n) (written_keys [] y.script.ops))) (sym mine);
    }
