-- A node that shows a view shows its own.
use Rattle.std.proofs.Common.{◌≡◌, nat_eq, List, Option, Some, None, refl, sym, ap, subst, ◌∙◌, ℕ}
use Rattle.std.proofs.Math.Path.{fun_ext}
use Rattle.std.specs.List.{IsDistinct}
use Rattle.std.specs.Map.{keys_of}
use Rattle.score_base.specs.declared.ids.TxId.{TxId}
use Rattle.score_base.specs.declared.ids.NodeId.{NodeId}
use Rattle.placement.specs.Clusters.{ClusterData}
use Rattle.journal_words.specs.Journals.{Decision, undone}
use Rattle.script_runs.specs.Waits.{waiting}
use Rattle.grid_model.specs.declared.stories.HeldRead.{HeldRead}
use Rattle.grid_model.specs.Views.{View, Open, open_stage, stage_by}
use Rattle.grid_store.specs.Given.{Given}
use Rattle.snapshot_read.specs.Views.{view_with}
use Rattle.presumed_abort.specs.declared.stands.Stand.{Stand}
use Rattle.presumed_abort.specs.Stands.{standing}
use Rattle.presumed_abort.specs.Views.{kept}
use Rattle.node_core.specs.Shows.{Shows, open_in, acks_in, own_view}
use Rattle.node_core.specs.Owning.{IsOwn}

-- what stands at a desk tells what is open, and the stage
record Tells (y : Option Decision) (o : Option Open) (acks : List NodeId) (x : Option Stand) : Type 0 where
  pub open' : open_in x ≡ o
  pub stage' : stage_by y (open_in x) (acks_in x) ≡ stage_by y o acks

tells : (c : ClusterData) (t : TxId) (y : Option Decision) (o : Option Open) (acks : List NodeId)
    → ((z : Decision) → y ≡ Some z → o ≡ None) → Tells y o acks (kept c t (stage_by y o acks))
tells c t (Some z) o acks apart = record { open' = sym (apart z refl); stage' = refl }
tells c t None None acks apart = record { open' = refl; stage' = refl }
tells c t None (Some x) acks apart = go (waiting x.script.ops x.progress.values)
  where
    go : (w : Option ℕ) → Tells None (Some x) acks (kept c t (open_stage x w))
    go None = record { open' = refl; stage' = refl }
    go (Some j) = record { open' = refl; stage' = refl }

own-of : (s : Given) (hs : List HeldRead) (desk : List (TxId × Stand))
    (d : TxId → Option Open) (acks : TxId → List NodeId)
    → Shows s hs desk (view_with s hs d acks) → IsDistinct nat_eq (keys_of desk) → IsOwn s hs desk
own-of s hs desk d acks shows unique =
    record {
      desk_is = shows.desk_is ∙ fun_ext (λ t. ap (kept s.cluster t) (sym (told t).stage'));
      apart = λ t y is. (told t).open' ∙ shows.apart t y is;
      numbers = λ t o is. shows.numbers t o (sym (told t).open' ∙ is);
      votes = λ t o is. shows.votes t o (sym (told t).open' ∙ is);
      unique = unique;
    }
  where
    told : (t : TxId) → Tells (undone t s.journal) (d t) (acks t) (standing desk t)
    told t =
        subst (Tells (undone t s.journal) (d t) (acks t)) (sym (ap (λ f. f t) shows.desk_is))
        (tells s.cluster t (undone t s.journal) (d t) (acks t) (shows.apart t))

-- a node that shows a view, and at whose desk no number stands twice, keeps what it needs of its own
pub own-shown : (s : Given) (hs : List HeldRead) (desk : List (TxId × Stand)) (v : View)
    → Shows s hs desk v → IsDistinct nat_eq (keys_of desk) → IsOwn s hs desk
own-shown s hs desk v shows unique = own-of s hs desk v.desk v.acks (subst (Shows s hs desk) shows.is shows) unique

-- what a node keeps of its own view says that it shows it
pub shown-own : (s : Given) (hs : List HeldRead) (desk : List (TxId × Stand))
    → IsOwn s hs desk → Shows s hs desk (own_view s hs desk)
shown-own s hs desk own =
    record { is = refl; desk_is = own.desk_is; apart = own.apart; numbers = own.numbers; votes = own.votes }
