-- What a desk answers is what fitness asks of the stage.
use Rattle.std.proofs.Common.{◌≡◌, ◌==◌, Bool, true, false, not, ◌||◌, None, refl, arith, if◌then◌else◌}
use Rattle.score_base.specs.declared.ids.TxId.{TxId}
use Rattle.score_base.specs.declared.ids.NodeId.{NodeId}
use Rattle.placement.specs.Clusters.{ClusterData}
use Rattle.grid_model.specs.declared.messages.ReadRep.{ReadRep}
use Rattle.grid_model.specs.Fitness.{is_part_at, is_same_ident, is_fit_reply}
use Rattle.grid_model.specs.Views.{Stage, Apart, Reads, Collects, Commits, is_apart}
use Rattle.presumed_abort.specs.Stands.{is_here}
use Rattle.presumed_abort.specs.Replays.{snapshot_of, is_stranger}
use Rattle.presumed_abort.specs.Views.{kept}

not-not : (b : Bool) → b ≡ not (not b)
not-not true = refl
not-not false = refl

pub part-at :
    (c : ClusterData) (t : TxId) (x : NodeId) (s : Stage)
    → is_part_at c s x ≡ not (is_stranger x (kept c t s))
part-at c t x (Reads o j) = refl
part-at c t x (Collects o) = not-not _
part-at c t x (Commits y acks) = not-not _
part-at c t x Apart = refl

pub fit-reply :
    (c : ClusterData) (q : ReadRep) (s : Stage)
    → is_fit_reply q s ≡ is_same_ident q.sid (snapshot_of q.op (kept c q.t s))
fit-reply c q (Reads x j) = go (j == q.op)
  where
    go :
        (b : Bool)
        → (not b || is_same_ident q.sid x.progress.sid)
        ≡ is_same_ident q.sid (if b then x.progress.sid else None)
    go true = refl
    go false = refl
fit-reply c q (Collects x) = refl
fit-reply c q (Commits y acks) = refl
fit-reply c q Apart = refl

pub begin-at : (c : ClusterData) (t : TxId) (s : Stage) → is_apart s ≡ not (is_here (kept c t s))
begin-at c t (Reads x j) = refl
begin-at c t (Collects x) = refl
begin-at c t (Commits y acks) = refl
begin-at c t Apart = refl

pub not-here : (c : ClusterData) (t : TxId) (s : Stage) → is_here (kept c t s) ≡ false → kept c t s ≡ None
not-here c t (Reads x j) is = absurd (grind (arith, is))
not-here c t (Collects x) is = absurd (grind (arith, is))
not-here c t (Commits y acks) is = absurd (grind (arith, is))
not-here c t Apart is = refl
