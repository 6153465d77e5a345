-- A Prepare by its parts.
use Rattle.std.proofs.Common.{◌≡◌, ℕ, List, [], filter, map}
use Rattle.score_base.specs.declared.keys.Key.{Key}
use Rattle.score_base.specs.declared.ids.NodeId.{NodeId}
use Rattle.score_base.specs.declared.ids.Value.{Value}
use Rattle.script_lang.specs.Reads.{remote_keys, written_keys}
use Rattle.placement.specs.Places.{holds}
use Rattle.placement.specs.Clusters.{ClusterData}
use Rattle.grid_model.specs.declared.messages.Prepare.{Prepare}
use Rattle.grid_model.specs.Stories.{first_sid}
use Rattle.grid_model.specs.Views.{Open}
use Rattle.script_runs.specs.Walks.{own_map}
use Rattle.grid_model.specs.Advances.{parts_now, prepare_for}

-- a Prepare by its parts
pub prepare-told :
    (c : ClusterData) (x : Open) (n t sid : ℕ) (ps : List NodeId) (reads : List Key) (writes : List (Key × Value))
    → t ≡ x.script.number → sid ≡ first_sid x.progress.sid x.progress.sid0 → ps ≡ parts_now c x
    → reads ≡ filter (holds c.places n) (remote_keys [] x.script.ops)
    → writes
    ≡ map (λ k. (k, own_map x.script.ops x.progress.values k))
    (filter (holds c.places n) (written_keys [] x.script.ops))
    → ◌≡◌ {A = Prepare} (record { t = t; sid = sid; parts = ps; reads = reads; writes = writes }) (prepare_for c x n)
prepare-told c x n t sid ps reads writes e f g h k =
    λ i. record { t = e i; sid = f i; parts = g i; reads = h i; writes = k i }
