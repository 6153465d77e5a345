-- Advance: what a home does once a transaction has begun or has taken a reply.
use Rattle.std.specs.Prelude.{ℕ, nat_lt, filter, map, List, [], ◌∷◌, ◌++◌, Option, Some, None, slice_get, if◌then◌else◌}
use Rattle.score_base.specs.declared.ids.TxId.{TxId}
use Rattle.score_base.specs.declared.ids.NodeId.{NodeId}
use Rattle.score_base.specs.declared.ids.Ident.{Ident}
use Rattle.score_base.specs.declared.ids.Value.{Value}
use Rattle.score_base.specs.declared.causes.Date.{Date}
use Rattle.score_base.specs.declared.causes.Date.TheVariants as date
use Rattle.script_lang.specs.declared.scripts.Op.{Op}
use Rattle.script_lang.specs.Reads.{keys_of, key_of, remote_keys, written_keys, is_update}
use Rattle.placement.specs.Places.{holds, parts, preferred}
use Rattle.placement.specs.Clusters.{ClusterData}
use Rattle.grid_model.specs.declared.acts.Act.TheVariants as act
use Rattle.grid_model.specs.declared.events.Out.{Out}
use Rattle.grid_model.specs.declared.events.Out.TheVariants as out
use Rattle.grid_model.specs.declared.messages.Message.{Message}
use Rattle.grid_model.specs.declared.messages.Message.TheVariants as message
use Rattle.grid_model.specs.declared.messages.Prepare.{Prepare}
use Rattle.script_runs.specs.Waits.{waiting}
use Rattle.grid_model.specs.Stories.{first_sid}
use Rattle.grid_model.specs.Views.{Open}
use Rattle.script_runs.specs.Walks.{unread, own_reads, own_map, op_at}

-- ---- the messages of a home

-- a first read is dated by the identifier at which its transaction began, a later one by the snapshot
abbrev pub date_by : Ident → Option Ident → Date
date_by sid0 None = date.First sid0
date_by sid0 (Some sid) = date.At sid

-- a message to a node, where there is one
abbrev pub to_node : Option NodeId → Message → List Out
to_node None said = []
to_node (Some n) said = out.Send n said ∷ []

-- the request of an operation, where there is one
abbrev pub request_of : ClusterData → Open → ℕ → ℕ → Option Op → List Out
request_of c x j q None = []
request_of c x j q (Some o) =
    to_node (slice_get (preferred c.places x.script.home (key_of o)) q) (message.ReadReq
    (record { t = x.script.number; op = j; key = key_of o; date = date_by x.progress.sid0 x.progress.sid }))

-- the request of operation j goes to the holder of its key at place q of the preferred order
abbrev pub request : ClusterData → Open → ℕ → ℕ → List Out
request c x j q = request_of c x j q (op_at x.script.ops j)

-- the parts of an open transaction
abbrev pub parts_now : ClusterData → Open → List NodeId
parts_now c x = parts c.places (keys_of x.script.ops)

-- the Prepare for n: the remotely read keys and the writes that n holds
abbrev pub prepare_for : ClusterData → Open → NodeId → Prepare
prepare_for c x n =
    record {
      t = x.script.number;
      sid = first_sid x.progress.sid x.progress.sid0;
      parts = parts_now c x;
      reads = filter (holds c.places n) (remote_keys [] x.script.ops);
      writes =
          map (λ k. (k, own_map x.script.ops x.progress.values k))
          (filter (holds c.places n) (written_keys [] x.script.ops));
    }

-- a Prepare to each of these nodes
abbrev pub prepares : ClusterData → Open → List NodeId → List Out
prepares c x ns = map (λ n. out.Send n (message.Prepare (prepare_for c x n))) ns

-- ---- Advance

-- what stands at the end of the walk: the request of the first remote read without a taken value; else
-- the Prepares of an update, or the end of a read-only transaction
abbrev pub advance_end : ClusterData → Open → Option ℕ → List Out
advance_end c x (Some j) = request c x j 0
advance_end c x None =
    if is_update x.script.ops then prepares c x (parts_now c x) else out.Act (act.Finished x.script.number) ∷ []

-- the own reads behind operation i are shown
abbrev pub owns : TxId → ℕ → List (ℕ × Value) → List Out
owns t i values = map (λ y. out.Act (act.Own t y.0 y.1)) (filter (λ y. nat_lt i y.0) values)

-- Advance of an open transaction behind operation i, 0 at its begin
abbrev pub advance : ClusterData → Open → ℕ → List Out
advance c x i =
    owns x.script.number i (own_reads 1 [] unread x.progress.values x.script.ops)
    ++ advance_end c x (waiting x.script.ops x.progress.values)
